use Rattle.wm_ast.specs.Operator.{operator_of}
use Rattle.cc_i64.proofs.Measures.{operator_weighs, operator_little}
use Rattle.cc_i64.proofs.law.operations_weigh_at_most.Goals as goal

pub returns-clause-most : goal.returns-clause-most
returns-clause-most c op a = operator_weighs (operator_of op) a

pub returns-clause-little : goal.returns-clause-little
returns-clause-little c op = operator_little (operator_of op)
