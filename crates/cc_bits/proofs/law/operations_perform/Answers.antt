use Rattle.cc_bits.proofs.OperationLemmas.{unary_performs, binary_performs}
use Rattle.cc_bits.proofs.law.operations_perform.Goals as goal

pub returns-clause-unary : goal.returns-clause-unary
returns-clause-unary c = unary_performs

pub returns-clause-binary : goal.returns-clause-binary
returns-clause-binary c = binary_performs
