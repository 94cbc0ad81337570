use Rattle.cc_div64.proofs.LawLemmas.{divisions_begin}
use Rattle.cc_div64.proofs.law.divisions_begin.Goals as goal

pub returns : goal.returns
returns c = divisions_begin
