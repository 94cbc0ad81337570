use Rattle.wm_ast.specs.Operator.{operator_of}
use Rattle.cc_i64.proofs.OperationLemmas.{operator_performs}
use Rattle.cc_i64.proofs.law.operations_perform.Goals as goal

pub returns : goal.returns
returns c op t a = operator_performs (operator_of op) t a
