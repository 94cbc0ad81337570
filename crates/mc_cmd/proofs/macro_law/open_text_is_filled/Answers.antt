use Rattle.mc_cmd.proofs.OpenLemmas.{chunks_filled}
use Rattle.mc_cmd.proofs.macro_law.open_text_is_filled.Goals as goal

pub returns : goal.returns
returns c = chunks_filled
