-- The operations on bits of i64, as items on places; which these are; and the most that each weighs.
use Rattle.std.specs.Prelude.{ℕ, suc, Bool, true, false}
use Rattle.mc_nbt.specs.declared.value.Kind.TheVariants.{I64}
use Rattle.wm_ast.specs.declared.operation.NumOp.{NumOp}
use Rattle.wm_ast.specs.declared.operation.NumOp.TheVariants.{I32And, I32Or, I32Xor, I32Clz, I32Ctz, I64And, I64Or}
use Rattle.wm_ast.specs.declared.operation.NumOp.TheVariants.{I64Xor, I64Shl, I64ShrS, I64ShrU, I64Rotl, I64Rotr}
use Rattle.wm_ast.specs.declared.operation.NumOp.TheVariants.{I64Clz, I64Ctz, I64Popcnt}
use Rattle.wm_ast.specs.declared.operator.Operator.{Operator}
use Rattle.wm_ast.specs.declared.operator.Operator.TheVariants.{Unary, Binary}
use Rattle.wm_ast.specs.declared.operator.UnaryOp.TheVariants.{Clz, Ctz, Popcnt}
use Rattle.wm_ast.specs.declared.operator.BinaryOp.TheVariants.{And, Or, Xor, Shl, ShrS, ShrU, Rotl, Rotr}
use Rattle.cc_line.specs.Item.{Items, no_more}
use Rattle.cc_bits64.specs.Halves.{halves_items, popcnt_items, zeros_items}
use Rattle.cc_bits64.specs.Shifting.{shl_items, shr_s_items, shr_u_items, rotl_items, rotr_items}

-- an operator on bits of i64
abbrev pub is_own : Operator → Bool
is_own (Unary I64 Clz) = true
is_own (Unary I64 Ctz) = true
is_own (Unary I64 Popcnt) = true
is_own (Binary I64 And) = true
is_own (Binary I64 Or) = true
is_own (Binary I64 Xor) = true
is_own (Binary I64 Shl) = true
is_own (Binary I64 ShrS) = true
is_own (Binary I64 ShrU) = true
is_own (Binary I64 Rotl) = true
is_own (Binary I64 Rotr) = true
is_own _ = false

-- the items of an operation whose operands stand from the place a on, two places each, and whose result comes there
abbrev pub op_items : NumOp → ℕ → Items
op_items I64And a = halves_items I32And a
op_items I64Or a = halves_items I32Or a
op_items I64Xor a = halves_items I32Xor a
op_items I64Clz a = zeros_items I32Clz a (suc a) a
op_items I64Ctz a = zeros_items I32Ctz a a (suc a)
op_items I64Popcnt a = popcnt_items a
op_items I64Shl a = shl_items a
op_items I64ShrS a = shr_s_items a
op_items I64ShrU a = shr_u_items a
op_items I64Rotl a = rotl_items a
op_items I64Rotr a = rotr_items a
op_items _ a = no_more

-- the most that they weigh
abbrev pub op_most : NumOp → ℕ
op_most I64And = 88
op_most I64Or = 94
op_most I64Xor = 96
op_most I64Clz = 49
op_most I64Ctz = 59
op_most I64Popcnt = 80
op_most I64Shl = 34
op_most I64ShrS = 41
op_most I64ShrU = 41
op_most I64Rotl = 42
op_most I64Rotr = 44
op_most _ = 0
