use Rattle.mc_nbt.proofs.SelectLaws.{append_apart}
use Rattle.mc_nbt.proofs.law.append_leaves_others_alone.Goals as goal

pub returns : goal.returns
returns c = append_apart
