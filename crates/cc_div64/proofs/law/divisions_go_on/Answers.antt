use Rattle.cc_div64.proofs.EndLemmas.{turns_go_on}
use Rattle.cc_div64.proofs.law.divisions_go_on.Goals as goal

pub returns : goal.returns
returns c = turns_go_on
