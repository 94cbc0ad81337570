use Rattle.mc_cmd.proofs.GrammarLemmas.{text_says}
use Rattle.mc_cmd.proofs.law.print_says_the_line.Goals as goal

pub returns : goal.returns
returns c = text_says
