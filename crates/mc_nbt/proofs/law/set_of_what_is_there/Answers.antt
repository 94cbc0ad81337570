use Rattle.mc_nbt.proofs.TreeLemmas.{set_at_same}
use Rattle.mc_nbt.proofs.law.set_of_what_is_there.Goals as goal

pub returns : goal.returns
returns c = set_at_same
