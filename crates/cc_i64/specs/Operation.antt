-- The operations of this crate, with the items of each from a place on and the most that these weigh.
use Rattle.std.specs.Prelude.{ℕ, suc, ◌++◌, pos, Bool, true, false}
use Rattle.mc_nbt.specs.declared.value.Kind.TheVariants.{I32, I64}
use Rattle.mc_cmd.specs.Command.{less, less_equal, greater_equal, greater}
use Rattle.wm_ast.specs.declared.operation.NumOp.{NumOp}
use Rattle.wm_ast.specs.declared.operator.Operator.{Operator}
use Rattle.wm_ast.specs.declared.operator.Operator.TheVariants.{Test, Unary, Binary, Comparison, Wrap, ExtendS, ExtendU}
use Rattle.wm_ast.specs.declared.operator.UnaryOp.{UnaryOp}
use Rattle.wm_ast.specs.declared.operator.UnaryOp.TheVariants.{Clz, Ctz, Popcnt, Extend8S, Extend16S, Extend32S}
use Rattle.wm_ast.specs.declared.operator.BinaryOp.{BinaryOp}
use Rattle.wm_ast.specs.declared.operator.BinaryOp.TheVariants.{Add, Sub, Mul, DivS, DivU, RemS, RemU, And, Or, Xor}
use Rattle.wm_ast.specs.declared.operator.BinaryOp.TheVariants.{Shl, ShrS, ShrU, Rotl, Rotr}
use Rattle.wm_ast.specs.declared.operator.CompareOp.{CompareOp}
use Rattle.wm_ast.specs.declared.operator.CompareOp.TheVariants.{Eq, Ne, LtS, LtU, GtS, GtU, LeS, LeU, GeS, GeU}
use Rattle.wm_ast.specs.Operator.{operator_of}
use Rattle.cc_line.specs.Core.{on_one, on_two}
use Rattle.cc_line.specs.Item.{Items, no_more, steps_items}
use Rattle.cc_i64.specs.Pairs.{sum, difference, agree, signed_order, unsigned_order, both_zero, signed_part, on_pairs}
use Rattle.cc_i64.specs.Pairs.{word_back, pair_back, zero_behind, sign_behind}

-- ---- which they are

abbrev pub is_sum : BinaryOp → Bool
is_sum Add = true
is_sum Sub = true
is_sum Mul = false
is_sum DivS = false
is_sum DivU = false
is_sum RemS = false
is_sum RemU = false
is_sum And = false
is_sum Or = false
is_sum Xor = false
is_sum Shl = false
is_sum ShrS = false
is_sum ShrU = false
is_sum Rotl = false
is_sum Rotr = false

abbrev pub is_extension : UnaryOp → Bool
is_extension Clz = false
is_extension Ctz = false
is_extension Popcnt = false
is_extension Extend8S = true
is_extension Extend16S = true
is_extension Extend32S = true

abbrev pub is_own : Operator → Bool
is_own (Test I32) = false
is_own (Test I64) = true
is_own (Unary I32 op) = false
is_own (Unary I64 op) = is_extension op
is_own (Binary I32 op) = false
is_own (Binary I64 op) = is_sum op
is_own (Comparison I32 op) = false
is_own (Comparison I64 op) = true
is_own Wrap = true
is_own ExtendS = true
is_own ExtendU = true

-- ---- their items: operands from the place a on, and the result from the same place on

abbrev pub unary_items : UnaryOp → ℕ → Items
unary_items Clz a = no_more
unary_items Ctz a = no_more
unary_items Popcnt a = no_more
unary_items Extend8S a = steps_items (on_one a a (signed_part (pos 256) (pos 128)) ++ sign_behind a)
unary_items Extend16S a = steps_items (on_one a a (signed_part (pos 65536) (pos 32768)) ++ sign_behind a)
unary_items Extend32S a = steps_items (sign_behind a)

abbrev pub binary_items : BinaryOp → ℕ → Items
binary_items Add a = steps_items (on_pairs a sum (pair_back a))
binary_items Sub a = steps_items (on_pairs a difference (pair_back a))
binary_items Mul a = no_more
binary_items DivS a = no_more
binary_items DivU a = no_more
binary_items RemS a = no_more
binary_items RemU a = no_more
binary_items And a = no_more
binary_items Or a = no_more
binary_items Xor a = no_more
binary_items Shl a = no_more
binary_items ShrS a = no_more
binary_items ShrU a = no_more
binary_items Rotl a = no_more
binary_items Rotr a = no_more

abbrev pub compare_items : CompareOp → ℕ → Items
compare_items Eq a = steps_items (on_pairs a (agree (pos 1) (pos 0)) (word_back a))
compare_items Ne a = steps_items (on_pairs a (agree (pos 0) (pos 1)) (word_back a))
compare_items LtS a = steps_items (on_pairs a (signed_order less less) (word_back a))
compare_items LtU a = steps_items (on_pairs a (unsigned_order less less) (word_back a))
compare_items GtS a = steps_items (on_pairs a (signed_order greater greater) (word_back a))
compare_items GtU a = steps_items (on_pairs a (unsigned_order greater greater) (word_back a))
compare_items LeS a = steps_items (on_pairs a (signed_order less less_equal) (word_back a))
compare_items LeU a = steps_items (on_pairs a (unsigned_order less less_equal) (word_back a))
compare_items GeS a = steps_items (on_pairs a (signed_order greater greater_equal) (word_back a))
compare_items GeU a = steps_items (on_pairs a (unsigned_order greater greater_equal) (word_back a))

abbrev pub operator_items : Operator → ℕ → Items
operator_items (Test I32) a = no_more
operator_items (Test I64) a = steps_items (on_two a (suc a) a both_zero)
operator_items (Unary I32 op) a = no_more
operator_items (Unary I64 op) a = unary_items op a
operator_items (Binary I32 op) a = no_more
operator_items (Binary I64 op) a = binary_items op a
operator_items (Comparison I32 op) a = no_more
operator_items (Comparison I64 op) a = compare_items op a
operator_items Wrap a = no_more
operator_items ExtendS a = steps_items (sign_behind a)
operator_items ExtendU a = steps_items (zero_behind a)

abbrev pub op_items : NumOp → ℕ → Items
op_items op a = operator_items (operator_of op) a

-- ---- the most that they weigh

abbrev pub unary_most : UnaryOp → ℕ
unary_most Clz = 0
unary_most Ctz = 0
unary_most Popcnt = 0
unary_most Extend8S = 13
unary_most Extend16S = 13
unary_most Extend32S = 5

abbrev pub binary_most : BinaryOp → ℕ
binary_most Add = 20
binary_most Sub = 20
binary_most Mul = 0
binary_most DivS = 0
binary_most DivU = 0
binary_most RemS = 0
binary_most RemU = 0
binary_most And = 0
binary_most Or = 0
binary_most Xor = 0
binary_most Shl = 0
binary_most ShrS = 0
binary_most ShrU = 0
binary_most Rotl = 0
binary_most Rotr = 0

abbrev pub compare_most : CompareOp → ℕ
compare_most Eq = 14
compare_most Ne = 14
compare_most LtS = 19
compare_most LtU = 23
compare_most GtS = 19
compare_most GtU = 23
compare_most LeS = 19
compare_most LeU = 23
compare_most GeS = 19
compare_most GeU = 23

abbrev pub operator_most : Operator → ℕ
operator_most (Test I32) = 0
operator_most (Test I64) = 11
operator_most (Unary I32 op) = 0
operator_most (Unary I64 op) = unary_most op
operator_most (Binary I32 op) = 0
operator_most (Binary I64 op) = binary_most op
operator_most (Comparison I32 op) = 0
operator_most (Comparison I64 op) = compare_most op
operator_most Wrap = 0
operator_most ExtendS = 5
operator_most ExtendU = 1

abbrev pub op_most : NumOp → ℕ
op_most op = operator_most (operator_of op)
