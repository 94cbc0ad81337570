-- The laws of numbers of 64 bits, on which what follows rests: of the operations in one piece, and of the divisions.
use Rattle.std.proofs.Common.{◌≡◌, ℕ, suc, ◌+◌, ◌≤◌, [], ◌∷◌, ◌++◌, length, true, Some, ℤ}
use Rattle.mc_nbt.specs.Word.{is_long}
use Rattle.mc_nbt.specs.declared.value.Kind.TheVariants as kinds
use Rattle.mc_nbt.specs.declared.value.Value.TheVariants as values
use Rattle.mc_cmd.specs.Form.{Text}
use Rattle.wm_ast.specs.declared.answer.Answer.{Answer}
use Rattle.wm_ast.specs.declared.operation.NumOp.{NumOp}
use Rattle.wm_ast.specs.declared.operator.BinaryOp.{BinaryOp}
use Rattle.wm_ast.specs.declared.operator.Operator.TheVariants.{Binary}
use Rattle.wm_ast.specs.Apply.{apply}
use Rattle.wm_ast.specs.Operator.{divides, operator_of}
use Rattle.cc_line.specs.Key.{is_work}
use Rattle.cc_line.specs.Routine.{value_ints, Gives, AreAt, PerformsFrom, PerformsFromStanding}
use Rattle.cc_line.specs.State.{State}
use Rattle.cc_i64.specs.Operation as pairs
use Rattle.cc_bits64.specs.Operation as long_bits
use Rattle.cc_div64.specs.Division.{turns_items, end_items}
use Rattle.cc_div64.specs.Law.{Dividing, Divides, Begins}

-- those of the divisions: one begins, its turns go on, and it ends
pub record DivisionsWork : Type 0 where
  pub begin : (op : NumOp) (d : BinaryOp) → operator_of op ≡ Binary kinds.I64 d → divides d ≡ true → (a : ℕ) (s : State) (x y : ℤ) (o : Answer) → is_long x ≡ true → is_long y ≡ true
      → AreAt s a (value_ints (values.I64 x) ++ value_ints (values.I64 y)) → apply op (values.I64 x ∷ (values.I64 y ∷ [])) ≡ Some o → Begins d a s o
  pub go_on : (d : BinaryOp) (z : ℤ) (left : ℕ) (s : State) → Dividing d z (suc left) s → Divides turns_items s d z left
  pub finish : (d : BinaryOp) → divides d ≡ true → (z : ℤ) (a : ℕ) (s : State) → a + 2 ≤ length s.places → Dividing d z 0 s → Gives (end_items d a) s a (value_ints (values.I64 z))
  -- only the scratch scores of routines tell of it
  pub stay : (d : BinaryOp) (z : ℤ) (left : ℕ) (s t : State) → ((h : Text) → is_work h ≡ true → t.scores h ≡ s.scores h) → Dividing d z left s → Dividing d z left t

pub record NumbersWork : Type 0 where
  pub pairs : (op : NumOp) → pairs.is_own (operator_of op) ≡ true → (a : ℕ) → PerformsFrom op (pairs.op_items op a) a
  pub bits : (op : NumOp) → long_bits.is_own (operator_of op) ≡ true → (a : ℕ) → PerformsFromStanding op (long_bits.op_items op a) a
  pub divisions : DivisionsWork
