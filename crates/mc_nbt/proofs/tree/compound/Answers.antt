use Rattle.mc_nbt.proofs.ViewLemmas.{view-Map}
use Rattle.mc_nbt.proofs.tree.compound.Goals as goal

pub returns : goal.returns
returns c = view-Map _
