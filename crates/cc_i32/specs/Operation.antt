-- The operations of this crate, with the items of each on places and the most that these weigh.
use Rattle.std.specs.Prelude.{ℕ, Bool, true, false, ◌||◌}
use Rattle.mc_nbt.specs.declared.value.Kind.{Kind}
use Rattle.mc_nbt.specs.declared.value.Kind.TheVariants.{I32, I64}
use Rattle.mc_cmd.specs.Command.{less, less_equal, equal, greater_equal, greater}
use Rattle.wm_ast.specs.declared.operation.NumOp.{NumOp}
use Rattle.wm_ast.specs.declared.operator.Operator.{Operator}
use Rattle.wm_ast.specs.declared.operator.Operator.TheVariants.{Test, Unary, Binary, Comparison, Wrap, ExtendS, ExtendU}
use Rattle.wm_ast.specs.declared.operator.BinaryOp.{BinaryOp}
use Rattle.wm_ast.specs.declared.operator.BinaryOp.TheVariants.{Add, Sub, Mul, DivS, DivU, RemS, RemU, And, Or, Xor}
use Rattle.wm_ast.specs.declared.operator.BinaryOp.TheVariants.{Shl, ShrS, ShrU, Rotl, Rotr}
use Rattle.wm_ast.specs.declared.operator.CompareOp.{CompareOp}
use Rattle.wm_ast.specs.declared.operator.CompareOp.TheVariants.{Eq, Ne, LtS, LtU, GtS, GtU, LeS, LeU, GeS, GeU}
use Rattle.wm_ast.specs.Operator.{operator_of}
use Rattle.cc_line.specs.Core.{on_one, on_two}
use Rattle.cc_line.specs.Item.{Items, no_more, steps_items}
use Rattle.cc_i32.specs.Light.{sum, difference, product, is_zero, compares, differ, compares_unsigned}
use Rattle.cc_i32.specs.Division.{div_s, div_u, rem_s, rem_u}

-- ---- which they are

abbrev pub is_arithmetic : BinaryOp → Bool
is_arithmetic Add = true
is_arithmetic Sub = true
is_arithmetic Mul = true
is_arithmetic DivS = true
is_arithmetic DivU = true
is_arithmetic RemS = true
is_arithmetic RemU = true
is_arithmetic And = false
is_arithmetic Or = false
is_arithmetic Xor = false
is_arithmetic Shl = false
is_arithmetic ShrS = false
is_arithmetic ShrU = false
is_arithmetic Rotl = false
is_arithmetic Rotr = false

abbrev pub is_i32 : Kind → Bool
is_i32 I32 = true
is_i32 I64 = false

-- those of two operands
abbrev pub takes_two : Operator → Bool
takes_two (Test k) = false
takes_two (Unary k op) = false
takes_two (Binary I32 op) = is_arithmetic op
takes_two (Binary I64 op) = false
takes_two (Comparison k op) = is_i32 k
takes_two Wrap = false
takes_two ExtendS = false
takes_two ExtendU = false

-- the one of one
abbrev pub takes_one : Operator → Bool
takes_one (Test k) = is_i32 k
takes_one (Unary k op) = false
takes_one (Binary k op) = false
takes_one (Comparison k op) = false
takes_one Wrap = false
takes_one ExtendS = false
takes_one ExtendU = false

abbrev pub is_own : Operator → Bool
is_own q = takes_two q || takes_one q

-- ---- their items: operands in the places a and b, or in a, and the result to the place r

abbrev pub binary_items : BinaryOp → ℕ → ℕ → ℕ → Items
binary_items Add a b r = steps_items (on_two a b r sum)
binary_items Sub a b r = steps_items (on_two a b r difference)
binary_items Mul a b r = steps_items (on_two a b r product)
binary_items DivS a b r = div_s a b r
binary_items DivU a b r = div_u a b r
binary_items RemS a b r = rem_s a b r
binary_items RemU a b r = rem_u a b r
binary_items And a b r = no_more
binary_items Or a b r = no_more
binary_items Xor a b r = no_more
binary_items Shl a b r = no_more
binary_items ShrS a b r = no_more
binary_items ShrU a b r = no_more
binary_items Rotl a b r = no_more
binary_items Rotr a b r = no_more

abbrev pub compare_items : CompareOp → ℕ → ℕ → ℕ → Items
compare_items Eq a b r = steps_items (on_two a b r (compares equal))
compare_items Ne a b r = steps_items (on_two a b r differ)
compare_items LtS a b r = steps_items (on_two a b r (compares less))
compare_items LtU a b r = steps_items (on_two a b r (compares_unsigned less))
compare_items GtS a b r = steps_items (on_two a b r (compares greater))
compare_items GtU a b r = steps_items (on_two a b r (compares_unsigned greater))
compare_items LeS a b r = steps_items (on_two a b r (compares less_equal))
compare_items LeU a b r = steps_items (on_two a b r (compares_unsigned less_equal))
compare_items GeS a b r = steps_items (on_two a b r (compares greater_equal))
compare_items GeU a b r = steps_items (on_two a b r (compares_unsigned greater_equal))

abbrev pub operator_items : Operator → ℕ → ℕ → ℕ → Items
operator_items (Test I32) a b r = steps_items (on_one a r is_zero)
operator_items (Test I64) a b r = no_more
operator_items (Unary k op) a b r = no_more
operator_items (Binary I32 op) a b r = binary_items op a b r
operator_items (Binary I64 op) a b r = no_more
operator_items (Comparison I32 op) a b r = compare_items op a b r
operator_items (Comparison I64 op) a b r = no_more
operator_items Wrap a b r = no_more
operator_items ExtendS a b r = no_more
operator_items ExtendU a b r = no_more

abbrev pub op_items : NumOp → ℕ → ℕ → ℕ → Items
op_items op a b r = operator_items (operator_of op) a b r

-- ---- the most that they weigh

abbrev pub binary_most : BinaryOp → ℕ
binary_most Add = 7
binary_most Sub = 7
binary_most Mul = 7
binary_most DivS = 22
binary_most DivU = 34
binary_most RemS = 16
binary_most RemU = 31
binary_most And = 0
binary_most Or = 0
binary_most Xor = 0
binary_most Shl = 0
binary_most ShrS = 0
binary_most ShrU = 0
binary_most Rotl = 0
binary_most Rotr = 0

abbrev pub compare_most : CompareOp → ℕ
compare_most Eq = 10
compare_most Ne = 10
compare_most LtS = 10
compare_most LtU = 13
compare_most GtS = 10
compare_most GtU = 13
compare_most LeS = 10
compare_most LeU = 13
compare_most GeS = 10
compare_most GeU = 13

abbrev pub operator_most : Operator → ℕ
operator_most (Test I32) = 7
operator_most (Test I64) = 0
operator_most (Unary k op) = 0
operator_most (Binary I32 op) = binary_most op
operator_most (Binary I64 op) = 0
operator_most (Comparison I32 op) = compare_most op
operator_most (Comparison I64 op) = 0
operator_most Wrap = 0
operator_most ExtendS = 0
operator_most ExtendU = 0

abbrev pub op_most : NumOp → ℕ
op_most op = operator_most (operator_of op)
