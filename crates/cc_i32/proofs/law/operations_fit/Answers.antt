use Rattle.wm_ast.specs.Operator.{operator_of}
use Rattle.cc_i32.proofs.OperationLemmas.{operator_fits}
use Rattle.cc_i32.proofs.law.operations_fit.Goals as goal

pub returns : goal.returns
returns c op = operator_fits (operator_of op)
