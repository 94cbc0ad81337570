use Rattle.cc_sched.proofs.Budgets.{call_enough, idle_enough, reload_enough, tick_enough, turn_enough, turn_rests}
use Rattle.cc_sched.proofs.law.budgets_are_enough.Goals as goal

pub returns-clause-turns : goal.returns-clause-turns
returns-clause-turns c = turn_enough

pub returns-clause-waits : goal.returns-clause-waits
returns-clause-waits c = turn_rests

pub returns-clause-ticks : goal.returns-clause-ticks
returns-clause-ticks c = tick_enough

pub returns-clause-rests : goal.returns-clause-rests
returns-clause-rests c = idle_enough

pub returns-clause-reloads : goal.returns-clause-reloads
returns-clause-reloads c = reload_enough

pub returns-clause-calls : goal.returns-clause-calls
returns-clause-calls c = call_enough
