use Rattle.mc_nbt.proofs.RemoveLaws.{remove_outlives}
use Rattle.mc_nbt.proofs.law.remove_leaves_others_alone.Goals as goal

pub returns : goal.returns
returns c = remove_outlives
