-- An operation answers where its operands have the types that it takes, and with a value of the type that it gives.
use Rattle.std.proofs.Common.{◌≡◌, ℕ, Bool, if◌then◌else◌, List, [], ◌∷◌, map, Some, None, IsSome, option_map, option_and_then, refl, sym, ap, ◌∙◌, subst}
use Rattle.std.specs.Int.{w32, w64}
use Rattle.mc_nbt.specs.declared.value.Kind.{Kind}
use Rattle.mc_nbt.specs.declared.value.Kind.TheVariants as kinds
use Rattle.mc_nbt.specs.declared.value.Value.{Value}
use Rattle.mc_nbt.specs.declared.value.Value.TheVariants.{I32, I64}
use Rattle.mc_nbt.specs.Value.{kind_of}
use Rattle.wm_ast.specs.declared.answer.Answer.{Answer}
use Rattle.wm_ast.specs.declared.answer.Answer.TheVariants as answers
use Rattle.wm_ast.specs.declared.operation.NumOp.{NumOp}
use Rattle.wm_ast.specs.declared.operator.Operator.{Operator}
use Rattle.wm_ast.specs.declared.operator.Operator.TheVariants.{Test, Unary, Binary, Comparison, Wrap, ExtendS, ExtendU}
use Rattle.wm_ast.specs.Apply.{unary_op, binary_op, compare_op, gives, truth, outcome, with_one, with_two, operate, apply}
use Rattle.wm_ast.specs.Integer.{Outcome, number, divides_by_zero, overflows, ieqz, wrap, extend_s, extend_u}
use Rattle.wm_ast.specs.Operand.{width_of, operand, integer_of, value_of}
use Rattle.wm_ast.specs.Operation.{kind_type, operator_type, num_type}
use Rattle.wm_ast.specs.Operator.{operator_of}
use Rattle.wm_ast.specs.Types.{const_type}

operand_own : (v : Value) → operand (kind_of v) v ≡ Some (integer_of v)
operand_own (I32 z) = refl
operand_own (I64 z) = refl

pub one_applies : (k : Kind) (f : ℕ → Answer) (a : Value) → kind_of a ≡ k → with_one k f (a ∷ []) ≡ Some (f (integer_of a))
one_applies k f a e = subst (λ k. with_one k f (a ∷ []) ≡ Some (f (integer_of a))) e (ap (option_map f) (operand_own a))

pub two_apply : (k : Kind) (f : ℕ → ℕ → Answer) (a b : Value) → kind_of a ≡ k → kind_of b ≡ k → with_two k f (a ∷ b ∷ []) ≡ Some (f (integer_of a) (integer_of b))
two_apply k f a b e d =
    let x : operand k a ≡ Some (integer_of a) = subst (λ k. operand k a ≡ Some (integer_of a)) e (operand_own a) in
    let y : operand k b ≡ Some (integer_of b) = subst (λ k. operand k b ≡ Some (integer_of b)) d (operand_own b) in
    ap (λ o. option_and_then (λ i. option_map (f i) (operand k b)) o) x ∙ ap (option_map (f (integer_of a))) y

same_kind : (k : Kind) (a : Value) → const_type a ≡ kind_type k → kind_of a ≡ k
same_kind kinds.I32 (I32 z) e = refl
same_kind kinds.I32 (I64 z) e = cc
same_kind kinds.I64 (I32 z) e = cc
same_kind kinds.I64 (I64 z) e = refl

one_answers : (k : Kind) (f : ℕ → Answer) (vs : List Value) → map const_type vs ≡ kind_type k ∷ [] → IsSome (with_one k f vs)
one_answers k f [] e = cc
one_answers k f (a ∷ []) e = subst IsSome (sym (one_applies k f a (same_kind k a (cc)))) refl
one_answers k f (a ∷ b ∷ vs) e = cc

two_answer : (k : Kind) (f : ℕ → ℕ → Answer) (vs : List Value) → map const_type vs ≡ kind_type k ∷ kind_type k ∷ [] → IsSome (with_two k f vs)
two_answer k f [] e = cc
two_answer k f (a ∷ []) e = cc
two_answer k f (a ∷ b ∷ []) e = subst IsSome (sym (two_apply k f a b (same_kind k a (cc)) (same_kind k b (cc)))) refl
two_answer k f (a ∷ b ∷ c ∷ vs) e = cc

operator_answers : (o : Operator) (vs : List Value) → map const_type vs ≡ (operator_type o).takes → IsSome (operate o vs)
operator_answers (Test k) vs e = one_answers k (λ i. truth (ieqz (width_of k) i)) vs e
operator_answers (Unary k op) vs e = one_answers k (λ i. gives k (unary_op op (width_of k) i)) vs e
operator_answers (Binary k op) vs e = two_answer k (λ i j. outcome k (binary_op op (width_of k) i j)) vs e
operator_answers (Comparison k op) vs e = two_answer k (λ i j. truth (compare_op op (width_of k) i j)) vs e
operator_answers Wrap vs e = one_answers kinds.I64 (λ i. gives kinds.I32 (wrap w64 w32 i)) vs e
operator_answers ExtendS vs e = one_answers kinds.I32 (λ i. gives kinds.I64 (extend_s w32 w64 i)) vs e
operator_answers ExtendU vs e = one_answers kinds.I32 (λ i. gives kinds.I64 (extend_u w32 w64 i)) vs e

-- An operation answers operands of the types that it takes. All of them are of one type, so in either order.
pub applies : (op : NumOp) (vs : List Value) → map const_type vs ≡ (num_type op).takes → IsSome (apply op vs)
applies op vs e = operator_answers (operator_of op) vs e

-- what is answered is of such operands
one_by : (k : Kind) (f : ℕ → Answer) (vs : List Value) (r : Answer) → with_one k f vs ≡ Some r → (i : ℕ) × (f i ≡ r)
one_by k f [] r e = cc
one_by k f (a ∷ []) r e =
    elim (operand k a) as (λ o. option_map f o ≡ Some r → (i : ℕ) × (f i ≡ r)) [ Some i ↦ λ d. (i, cc) | None ↦ λ d. cc ] e
one_by k f (a ∷ b ∷ vs) r e = cc

two_by : (k : Kind) (f : ℕ → ℕ → Answer) (vs : List Value) (r : Answer) → with_two k f vs ≡ Some r → (i : ℕ) × (j : ℕ) × (f i j ≡ r)
two_by k f [] r e = cc
two_by k f (a ∷ []) r e = cc
two_by k f (a ∷ b ∷ []) r e =
    elim (operand k a) as (λ o. option_and_then (λ i. option_map (f i) (operand k b)) o ≡ Some r → (i : ℕ) × (j : ℕ) × (f i j ≡ r)) [
      | Some i ↦ λ d. elim (operand k b) as (λ o. option_map (f i) o ≡ Some r → (i : ℕ) × (j : ℕ) × (f i j ≡ r)) [ Some j ↦ λ w. (i, j, cc) | None ↦ λ w. cc ] d
      | None ↦ λ d. cc
    ] e
two_by k f (a ∷ b ∷ c ∷ vs) r e = cc

value_type : (k : Kind) (i : ℕ) → const_type (value_of k i) ≡ kind_type k
value_type kinds.I32 i = refl
value_type kinds.I64 i = refl

gives_type : (k : Kind) (i : ℕ) (v : Value) → gives k i ≡ answers.Value v → const_type v ∷ [] ≡ kind_type k ∷ []
gives_type k i v e = let same : value_of k i ≡ v = cc in subst (λ v. const_type v ∷ [] ≡ kind_type k ∷ []) same (ap (λ t. t ∷ []) (value_type k i))

outcome_type : (k : Kind) (o : Outcome) (v : Value) → outcome k o ≡ answers.Value v → const_type v ∷ [] ≡ kind_type k ∷ []
outcome_type k (number i) v e = gives_type k i v e
outcome_type k divides_by_zero v e = cc
outcome_type k overflows v e = cc

truth_type : (b : Bool) (v : Value) → truth b ≡ answers.Value v → const_type v ∷ [] ≡ kind_type kinds.I32 ∷ []
truth_type b v e = gives_type kinds.I32 (if b then 1 else 0) v e

operator_gives : (o : Operator) (vs : List Value) (v : Value) → operate o vs ≡ Some (answers.Value v) → const_type v ∷ [] ≡ (operator_type o).gives
operator_gives (Test k) vs v e = let a = one_by k (λ i. truth (ieqz (width_of k) i)) vs (answers.Value v) e in truth_type (ieqz (width_of k) a.0) v a.1
operator_gives (Unary k op) vs v e = let a = one_by k (λ i. gives k (unary_op op (width_of k) i)) vs (answers.Value v) e in gives_type k (unary_op op (width_of k) a.0) v a.1
operator_gives (Binary k op) vs v e =
    let a = two_by k (λ i j. outcome k (binary_op op (width_of k) i j)) vs (answers.Value v) e in outcome_type k (binary_op op (width_of k) a.0 a.1) v a.2
operator_gives (Comparison k op) vs v e =
    let a = two_by k (λ i j. truth (compare_op op (width_of k) i j)) vs (answers.Value v) e in truth_type (compare_op op (width_of k) a.0 a.1) v a.2
operator_gives Wrap vs v e = let a = one_by kinds.I64 (λ i. gives kinds.I32 (wrap w64 w32 i)) vs (answers.Value v) e in gives_type kinds.I32 (wrap w64 w32 a.0) v a.1
operator_gives ExtendS vs v e = let a = one_by kinds.I32 (λ i. gives kinds.I64 (extend_s w32 w64 i)) vs (answers.Value v) e in gives_type kinds.I64 (extend_s w32 w64 a.0) v a.1
operator_gives ExtendU vs v e = let a = one_by kinds.I32 (λ i. gives kinds.I64 (extend_u w32 w64 i)) vs (answers.Value v) e in gives_type kinds.I64 (extend_u w32 w64 a.0) v a.1

-- a value that an operation answers is of the type that it gives
pub answer_type : (op : NumOp) (vs : List Value) (v : Value) → apply op vs ≡ Some (answers.Value v) → const_type v ∷ [] ≡ (num_type op).gives
answer_type op vs v e = operator_gives (operator_of op) vs v e
