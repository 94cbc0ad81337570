use Rattle.wm_ast.specs.Operator.{operator_of}
use Rattle.cc_i32.proofs.OperationLemmas.{operator_weighs, operator_little}
use Rattle.cc_i32.proofs.law.operations_weigh_at_most.Goals as goal

pub returns-clause-most : goal.returns-clause-most
returns-clause-most c op = operator_weighs (operator_of op)

pub returns-clause-little : goal.returns-clause-little
returns-clause-little c op = operator_little (operator_of op)
