use Rattle.cc_init.proofs.Laying.{instantiation_lays_down}
use Rattle.cc_init.proofs.law.instantiation_lays_down_the_first_store.Goals as goal

pub returns : goal.returns
returns c = instantiation_lays_down
