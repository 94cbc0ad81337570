use Rattle.cc_bits64.proofs.FitLemmas.{all_fit}
use Rattle.cc_bits64.proofs.law.operations_fit.Goals as goal

pub returns : goal.returns
returns c = all_fit
