-- The laws of numbers of 64 bits hold: what their operations do.
use Rattle.wm_ast.specs.Operator.{operator_of}
use Rattle.cc_bits64.proofs.OperationLemmas.{all_perform}
use Rattle.cc_div64.proofs.EndLemmas.{turns_go_on, divisions_end, divisions_stay}
use Rattle.cc_div64.proofs.LawLemmas.{divisions_begin}
use Rattle.cc_i64.proofs.OperationLemmas.{operator_performs}
use Rattle.cc_simulate.proofs.NumbersWork.{NumbersWork}

pub numbers_work : NumbersWork
numbers_work = record {
  pairs = λ op t a. operator_performs (operator_of op) t a;
  bits = all_perform;
  divisions = record { begin = divisions_begin; go_on = turns_go_on; finish = divisions_end; stay = divisions_stay };
}
