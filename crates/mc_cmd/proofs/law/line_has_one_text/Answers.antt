use Rattle.mc_cmd.proofs.GrammarLemmas.{one_text}
use Rattle.mc_cmd.proofs.law.line_has_one_text.Goals as goal

pub returns : goal.returns
returns c = one_text
