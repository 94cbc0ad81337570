use Rattle.mc_nbt.proofs.SelectLaws.{select_after_set}
use Rattle.mc_nbt.proofs.law.set_is_selected.Goals as goal

pub returns : goal.returns
returns c = select_after_set
