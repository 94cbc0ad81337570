use Rattle.cc_sched.proofs.Reloads.{reload, foreign}
use Rattle.cc_sched.proofs.law.reloads_and_foreign_commands_change_nothing.Goals as goal

pub returns-clause-reload : goal.returns-clause-reload
returns-clause-reload c = reload

pub returns-clause-foreign : goal.returns-clause-foreign
returns-clause-foreign c = foreign
