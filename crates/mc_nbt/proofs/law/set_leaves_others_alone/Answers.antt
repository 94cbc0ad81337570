use Rattle.mc_nbt.proofs.SelectLaws.{select_apart}
use Rattle.mc_nbt.proofs.law.set_leaves_others_alone.Goals as goal

pub returns : goal.returns
returns c = select_apart
