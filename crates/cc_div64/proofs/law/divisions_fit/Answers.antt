use Rattle.cc_div64.proofs.LawLemmas.{begin_fits, end_fits, turns_fit}
use Rattle.cc_div64.proofs.law.divisions_fit.Goals as goal

pub returns-clause-begin : goal.returns-clause-begin
returns-clause-begin c = begin_fits

pub returns-clause-turns : goal.returns-clause-turns
returns-clause-turns c = turns_fit

pub returns-clause-ends : goal.returns-clause-ends
returns-clause-ends c = end_fits
