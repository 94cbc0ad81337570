use Rattle.cc_sched.proofs.Reloads.{load}
use Rattle.cc_sched.proofs.law.loading_begins_instantiation.Goals as goal

pub returns : goal.returns
returns c = load
