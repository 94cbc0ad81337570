-- The operations on bits of i32, as items on places; which these are; and the most that each weighs.
use Rattle.std.specs.Prelude.{ℕ, pos, List, Bool, true, false, codes}
use Rattle.wm_ast.specs.declared.operation.NumOp.{NumOp}
use Rattle.wm_ast.specs.declared.operation.NumOp.TheVariants.{I32Clz, I32Ctz, I32Popcnt, I32Extend8S, I32Extend16S}
use Rattle.wm_ast.specs.declared.operation.NumOp.TheVariants.{I32And, I32Or, I32Xor, I32Shl, I32ShrS, I32ShrU}
use Rattle.wm_ast.specs.declared.operation.NumOp.TheVariants.{I32Rotl, I32Rotr}
use Rattle.wm_ast.specs.declared.operator.Operator.{Operator}
use Rattle.wm_ast.specs.declared.operator.Operator.TheVariants.{Unary, Binary}
use Rattle.wm_ast.specs.declared.operator.UnaryOp.TheVariants.{Clz, Ctz, Popcnt, Extend8S, Extend16S}
use Rattle.wm_ast.specs.declared.operator.BinaryOp.TheVariants.{And, Or, Xor, Shl, ShrS, ShrU, Rotl, Rotr}
use Rattle.wm_ast.specs.Operator.{operator_of}
use Rattle.mc_nbt.specs.declared.value.Kind.TheVariants.{I32}
use Rattle.cc_line.specs.Core.{core_on_one, on_one}
use Rattle.cc_line.specs.Step.{Step}
use Rattle.cc_line.specs.Item.{Items, no_more, steps_items}
use Rattle.cc_bits.specs.Line.{of_one, of_two}
use Rattle.cc_bits.specs.Counting.{extend_steps, clz_steps, ctz_steps}
use Rattle.cc_bits.specs.Shifting.{shl_items, shr_s_items, shr_u_items, rotl_items, rotr_items}
use Rattle.cc_bits.specs.Digit.{and_items, or_items, xor_items, popcnt_items}

-- those with one operand, and those with two
abbrev pub unary_here : Operator → Bool
unary_here (Unary I32 Clz) = true
unary_here (Unary I32 Ctz) = true
unary_here (Unary I32 Popcnt) = true
unary_here (Unary I32 Extend8S) = true
unary_here (Unary I32 Extend16S) = true
unary_here _ = false

abbrev pub binary_here : Operator → Bool
binary_here (Binary I32 And) = true
binary_here (Binary I32 Or) = true
binary_here (Binary I32 Xor) = true
binary_here (Binary I32 Shl) = true
binary_here (Binary I32 ShrS) = true
binary_here (Binary I32 ShrU) = true
binary_here (Binary I32 Rotl) = true
binary_here (Binary I32 Rotr) = true
binary_here _ = false

abbrev pub is_unary : NumOp → Bool
is_unary op = unary_here (operator_of op)

abbrev pub is_binary : NumOp → Bool
is_binary op = binary_here (operator_of op)

-- a core on the operand wherever it is
abbrev pub one_items : ℕ → ℕ → List Step → Items
one_items a r core = steps_items (on_one a r (core_on_one core))

-- the items of an operation on the places a and b, with its result in the place r; one with one operand reads a alone
abbrev pub op_items : NumOp → ℕ → ℕ → ℕ → Items
op_items I32Clz a b r = one_items a r clz_steps
op_items I32Ctz a b r = one_items a r ctz_steps
op_items I32Popcnt a b r = of_one a r popcnt_items (codes "#d")
op_items I32Extend8S a b r = one_items a r (extend_steps (pos 256) (pos 128))
op_items I32Extend16S a b r = one_items a r (extend_steps (pos 65536) (pos 32768))
op_items I32And a b r = of_two a b r and_items (codes "#d")
op_items I32Or a b r = of_two a b r or_items (codes "#e")
op_items I32Xor a b r = of_two a b r xor_items (codes "#e")
op_items I32Shl a b r = of_two a b r shl_items (codes "#a")
op_items I32ShrS a b r = of_two a b r shr_s_items (codes "#a")
op_items I32ShrU a b r = of_two a b r shr_u_items (codes "#a")
op_items I32Rotl a b r = of_two a b r rotl_items (codes "#a")
op_items I32Rotr a b r = of_two a b r rotr_items (codes "#a")
op_items _ a b r = no_more

-- the most that they weigh
abbrev pub most : NumOp → ℕ
most I32Clz = 30
most I32Ctz = 40
most I32Popcnt = 36
most I32Extend8S = 8
most I32Extend16S = 8
most I32And = 44
most I32Or = 47
most I32Xor = 48
most I32Shl = 14
most I32ShrS = 16
most I32ShrU = 20
most I32Rotl = 24
most I32Rotr = 24
most _ = 0
