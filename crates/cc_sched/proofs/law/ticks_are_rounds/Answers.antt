use Rattle.cc_sched.proofs.Ticks.{tick, tick_idle}
use Rattle.cc_sched.proofs.law.ticks_are_rounds.Goals as goal

pub returns-clause-runs : goal.returns-clause-runs
returns-clause-runs c = tick

pub returns-clause-rests : goal.returns-clause-rests
returns-clause-rests c = tick_idle
