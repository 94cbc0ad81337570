use Rattle.mc_cmd.specs.declared.TheConstants.{BMIN}
use Rattle.app_words.proofs.WhereLemmas.{where_are_spelled}
use Rattle.app_words.proofs.law.where_lines_are_read_as_spelled.Goals as goal

pub returns : goal.returns
returns c = where_are_spelled BMIN
