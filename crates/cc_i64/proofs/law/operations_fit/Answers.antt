use Rattle.wm_ast.specs.Operator.{operator_of}
use Rattle.cc_i64.proofs.Measures.{operator_fits}
use Rattle.cc_i64.proofs.law.operations_fit.Goals as goal

pub returns : goal.returns
returns c op a f = operator_fits (operator_of op) a f
