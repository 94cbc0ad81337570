use Rattle.wm_ast.specs.Operator.{operator_of}
use Rattle.cc_i64.proofs.Short.{operator_short}
use Rattle.cc_i64.proofs.law.items_are_short.Goals as goal

pub returns : goal.returns
returns c op = operator_short (operator_of op)
