use Rattle.cc_bits64.proofs.OperationLemmas.{all_perform}
use Rattle.cc_bits64.proofs.law.operations_perform.Goals as goal

pub returns : goal.returns
returns c = all_perform
