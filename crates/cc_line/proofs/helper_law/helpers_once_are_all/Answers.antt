use Rattle.cc_line.proofs.HelperLemmas.{once_is_all}
use Rattle.cc_line.proofs.helper_law.helpers_once_are_all.Goals as goal

pub returns : goal.returns
returns c = once_is_all
