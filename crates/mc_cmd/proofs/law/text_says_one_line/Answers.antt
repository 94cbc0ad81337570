use Rattle.mc_cmd.proofs.GrammarLemmas.{line_reader}
use Rattle.mc_cmd.proofs.law.text_says_one_line.Goals as goal

pub returns : goal.returns
returns c = line_reader
