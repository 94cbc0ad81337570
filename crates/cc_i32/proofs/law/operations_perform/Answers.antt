use Rattle.wm_ast.specs.Operator.{operator_of}
use Rattle.cc_i32.proofs.OperationLemmas.{two_performs, one_performs}
use Rattle.cc_i32.proofs.law.operations_perform.Goals as goal

pub returns-clause-two : goal.returns-clause-two
returns-clause-two c op t a b r = two_performs (operator_of op) t a b r

pub returns-clause-one : goal.returns-clause-one
returns-clause-one c op t a b r = one_performs (operator_of op) t a b r
