use Rattle.cc_line.proofs.UnderLemmas.{steps_under}
use Rattle.cc_line.proofs.law.lines_are_renamed.Goals as goal

pub returns : goal.returns
returns c = steps_under
