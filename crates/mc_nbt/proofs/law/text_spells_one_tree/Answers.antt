use Rattle.mc_nbt.proofs.ReadingComplete.{one_tree}
use Rattle.mc_nbt.proofs.law.text_spells_one_tree.Goals as goal

pub returns : goal.returns
returns c = one_tree
