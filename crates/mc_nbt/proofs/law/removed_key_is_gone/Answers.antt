use Rattle.mc_nbt.proofs.SelectLaws.{select_after_remove_key}
use Rattle.mc_nbt.proofs.law.removed_key_is_gone.Goals as goal

pub returns : goal.returns
returns c = select_after_remove_key
