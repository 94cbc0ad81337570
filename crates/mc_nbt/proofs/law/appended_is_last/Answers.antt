use Rattle.mc_nbt.proofs.SelectLaws.{select_after_append}
use Rattle.mc_nbt.proofs.law.appended_is_last.Goals as goal

pub returns : goal.returns
returns c = select_after_append
