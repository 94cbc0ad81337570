use Rattle.cc_bits.proofs.OperationLemmas.{all_fit}
use Rattle.cc_bits.proofs.law.operations_fit.Goals as goal

pub returns : goal.returns
returns c = all_fit
