use Rattle.cc_div64.proofs.EndLemmas.{divisions_end}
use Rattle.cc_div64.proofs.law.divisions_end.Goals as goal

pub returns : goal.returns
returns c = divisions_end
