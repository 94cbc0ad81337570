-- What a number operation gives of its operands (4.4.1, 4.3.2, 4.3.4).
use Rattle.std.specs.Prelude.{ℕ, List, [], ◌∷◌, Option, None, Bool, if◌then◌else◌, option_map, option_and_then}
use Rattle.std.specs.Int.{Width, w8, w16, w32, w64}
use Rattle.mc_nbt.specs.declared.value.Kind.{Kind}
use Rattle.mc_nbt.specs.declared.value.Kind.TheVariants as kinds
use Rattle.mc_nbt.specs.declared.value.Value.{Value}
use Rattle.wm_ast.specs.declared.answer.Answer.{Answer}
use Rattle.wm_ast.specs.declared.answer.Answer.TheVariants as answers
use Rattle.wm_ast.specs.declared.answer.TrapKind.TheVariants.{DivideByZero, Overflow}
use Rattle.wm_ast.specs.declared.operation.NumOp.{NumOp}
use Rattle.wm_ast.specs.declared.operator.Operator.{Operator}
use Rattle.wm_ast.specs.declared.operator.Operator.TheVariants.{Test, Unary, Binary, Comparison, Wrap, ExtendS}
use Rattle.wm_ast.specs.declared.operator.Operator.TheVariants.{ExtendU}
use Rattle.wm_ast.specs.declared.operator.UnaryOp.{UnaryOp}
use Rattle.wm_ast.specs.declared.operator.UnaryOp.TheVariants.{Clz, Ctz, Popcnt, Extend8S, Extend16S, Extend32S}
use Rattle.wm_ast.specs.declared.operator.BinaryOp.{BinaryOp}
use Rattle.wm_ast.specs.declared.operator.BinaryOp.TheVariants.{Add, Sub, Mul, DivS, DivU, RemS, RemU, And, Or, Xor}
use Rattle.wm_ast.specs.declared.operator.BinaryOp.TheVariants.{Shl, ShrS, ShrU, Rotl, Rotr}
use Rattle.wm_ast.specs.declared.operator.CompareOp.{CompareOp}
use Rattle.wm_ast.specs.declared.operator.CompareOp.TheVariants.{Eq, Ne, LtS, LtU, GtS, GtU, LeS, LeU, GeS, GeU}
use Rattle.wm_ast.specs.Integer.{Outcome, number, divides_by_zero, overflows, iadd, isub, imul, idiv_s, idiv_u}
use Rattle.wm_ast.specs.Integer.{irem_s, irem_u, iand, ior, ixor, ishl, ishr_s, ishr_u, irotl, irotr, iclz, ictz}
use Rattle.wm_ast.specs.Integer.{ipopcnt, ieqz, ieq, ine, ilt_s, ilt_u, igt_s, igt_u, ile_s, ile_u, ige_s, ige_u}
use Rattle.wm_ast.specs.Integer.{wrap, extend_s, extend_u, iextend_s}
use Rattle.wm_ast.specs.Operand.{width_of, operand, value_of}
use Rattle.wm_ast.specs.Operator.{operator_of}

-- operators by their names (4.4.1.2, 4.4.1.3, 4.4.1.5)
abbrev pub unary_op : UnaryOp → Width → ℕ → ℕ
unary_op Clz = iclz
unary_op Ctz = ictz
unary_op Popcnt = ipopcnt
unary_op Extend8S = iextend_s w8
unary_op Extend16S = iextend_s w16
unary_op Extend32S = iextend_s w32

abbrev pub binary_op : BinaryOp → Width → ℕ → ℕ → Outcome
binary_op Add w i j = number (iadd w i j)
binary_op Sub w i j = number (isub w i j)
binary_op Mul w i j = number (imul w i j)
binary_op DivS w i j = idiv_s w i j
binary_op DivU w i j = idiv_u w i j
binary_op RemS w i j = irem_s w i j
binary_op RemU w i j = irem_u w i j
binary_op And w i j = number (iand w i j)
binary_op Or w i j = number (ior w i j)
binary_op Xor w i j = number (ixor w i j)
binary_op Shl w i j = number (ishl w i j)
binary_op ShrS w i j = number (ishr_s w i j)
binary_op ShrU w i j = number (ishr_u w i j)
binary_op Rotl w i j = number (irotl w i j)
binary_op Rotr w i j = number (irotr w i j)

abbrev pub compare_op : CompareOp → Width → ℕ → ℕ → Bool
compare_op Eq = ieq
compare_op Ne = ine
compare_op LtS = ilt_s
compare_op LtU = ilt_u
compare_op GtS = igt_s
compare_op GtU = igt_u
compare_op LeS = ile_s
compare_op LeU = ile_u
compare_op GeS = ige_s
compare_op GeU = ige_u

-- what is answered: a number of a type, a truth value, or a trap
abbrev pub gives : Kind → ℕ → Answer
gives k i = answers.Value (value_of k i)

abbrev pub truth : Bool → Answer
truth b = gives kinds.I32 (if b then 1 else 0)

abbrev pub outcome : Kind → Outcome → Answer
outcome k (number i) = gives k i
outcome k divides_by_zero = answers.Trap DivideByZero
outcome k overflows = answers.Trap Overflow

-- operands of one type, as many as are wanted
abbrev pub with_one : Kind → (ℕ → Answer) → List Value → Option Answer
with_one k f [] = None
with_one k f (a ∷ []) = option_map f (operand k a)
with_one k f (a ∷ b ∷ vs) = None

abbrev pub with_two : Kind → (ℕ → ℕ → Answer) → List Value → Option Answer
with_two k f [] = None
with_two k f (a ∷ []) = None
with_two k f (a ∷ b ∷ []) = option_and_then (λ i. option_map (f i) (operand k b)) (operand k a)
with_two k f (a ∷ b ∷ c ∷ vs) = None

-- what an operator answers (4.4.1.2 to 4.4.1.6)
abbrev pub operate : Operator → List Value → Option Answer
operate (Test k) = with_one k (λ i. truth (ieqz (width_of k) i))
operate (Unary k op) = with_one k (λ i. gives k (unary_op op (width_of k) i))
operate (Binary k op) = with_two k (λ i j. outcome k (binary_op op (width_of k) i j))
operate (Comparison k op) = with_two k (λ i j. truth (compare_op op (width_of k) i j))
operate Wrap = with_one kinds.I64 (λ i. gives kinds.I32 (wrap w64 w32 i))
operate ExtendS = with_one kinds.I32 (λ i. gives kinds.I64 (extend_s w32 w64 i))
operate ExtendU = with_one kinds.I32 (λ i. gives kinds.I64 (extend_u w32 w64 i))

-- The answer of an operation to its operands, of which the first stands first: a value, or one of the two traps of
-- arithmetic. There is none where the operands aren't as many as it takes and of the types that it takes.
abbrev pub apply : NumOp → List Value → Option Answer
apply op vs = operate (operator_of op) vs
