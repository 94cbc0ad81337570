-- What a number operation does, apart from its type (4.4.1): `I32Add` is `Add` on i32.
use Rattle.std.specs.Prelude.{Bool, true, false}
use Rattle.mc_nbt.specs.declared.value.Kind.TheVariants.{I32, I64}
use Rattle.wm_ast.specs.declared.operation.NumOp.{NumOp}
use Rattle.wm_ast.specs.declared.operation.NumOp.TheVariants.{I32Eqz, I32Eq, I32Ne, I32LtS, I32LtU, I32GtS, I32GtU}
use Rattle.wm_ast.specs.declared.operation.NumOp.TheVariants.{I32LeS, I32LeU, I32GeS, I32GeU, I64Eqz, I64Eq, I64Ne}
use Rattle.wm_ast.specs.declared.operation.NumOp.TheVariants.{I64LtS, I64LtU, I64GtS, I64GtU, I64LeS, I64LeU, I64GeS}
use Rattle.wm_ast.specs.declared.operation.NumOp.TheVariants.{I64GeU, I32Clz, I32Ctz, I32Popcnt, I32Add, I32Sub}
use Rattle.wm_ast.specs.declared.operation.NumOp.TheVariants.{I32Mul, I32DivS, I32DivU, I32RemS, I32RemU, I32And}
use Rattle.wm_ast.specs.declared.operation.NumOp.TheVariants.{I32Or, I32Xor, I32Shl, I32ShrS, I32ShrU, I32Rotl}
use Rattle.wm_ast.specs.declared.operation.NumOp.TheVariants.{I32Rotr, I64Clz, I64Ctz, I64Popcnt, I64Add, I64Sub}
use Rattle.wm_ast.specs.declared.operation.NumOp.TheVariants.{I64DivS, I64DivU, I64RemS, I64RemU, I64And, I64Or}
use Rattle.wm_ast.specs.declared.operation.NumOp.TheVariants.{I64Xor, I64Shl, I64ShrS, I64ShrU, I64Rotl, I64Rotr}
use Rattle.wm_ast.specs.declared.operation.NumOp.TheVariants.{I32WrapI64, I64ExtendI32S, I64ExtendI32U, I32Extend8S}
use Rattle.wm_ast.specs.declared.operation.NumOp.TheVariants.{I32Extend16S, I64Extend8S, I64Extend16S, I64Extend32S}
use Rattle.wm_ast.specs.declared.operator.Operator.{Operator}
use Rattle.wm_ast.specs.declared.operator.Operator.TheVariants.{Test, Unary, Binary, Comparison, Wrap, ExtendS}
use Rattle.wm_ast.specs.declared.operator.Operator.TheVariants.{ExtendU}
use Rattle.wm_ast.specs.declared.operator.UnaryOp.TheVariants.{Clz, Ctz, Popcnt, Extend8S, Extend16S, Extend32S}
use Rattle.wm_ast.specs.declared.operator.BinaryOp.{BinaryOp}
use Rattle.wm_ast.specs.declared.operator.BinaryOp.TheVariants.{Add, Sub, Mul, DivS, DivU, RemS, RemU, And, Or, Xor}
use Rattle.wm_ast.specs.declared.operator.BinaryOp.TheVariants.{Shl, ShrS, ShrU, Rotl, Rotr}
use Rattle.wm_ast.specs.declared.operator.CompareOp.TheVariants.{Eq, Ne, LtS, LtU, GtS, GtU, LeS, LeU, GeS, GeU}

abbrev pub operator_of : NumOp → Operator
operator_of I32Eqz = Test I32
operator_of I32Eq = Comparison I32 Eq
operator_of I32Ne = Comparison I32 Ne
operator_of I32LtS = Comparison I32 LtS
operator_of I32LtU = Comparison I32 LtU
operator_of I32GtS = Comparison I32 GtS
operator_of I32GtU = Comparison I32 GtU
operator_of I32LeS = Comparison I32 LeS
operator_of I32LeU = Comparison I32 LeU
operator_of I32GeS = Comparison I32 GeS
operator_of I32GeU = Comparison I32 GeU
operator_of I64Eqz = Test I64
operator_of I64Eq = Comparison I64 Eq
operator_of I64Ne = Comparison I64 Ne
operator_of I64LtS = Comparison I64 LtS
operator_of I64LtU = Comparison I64 LtU
operator_of I64GtS = Comparison I64 GtS
operator_of I64GtU = Comparison I64 GtU
operator_of I64LeS = Comparison I64 LeS
operator_of I64LeU = Comparison I64 LeU
operator_of I64GeS = Comparison I64 GeS
operator_of I64GeU = Comparison I64 GeU
operator_of I32Clz = Unary I32 Clz
operator_of I32Ctz = Unary I32 Ctz
operator_of I32Popcnt = Unary I32 Popcnt
operator_of I32Add = Binary I32 Add
operator_of I32Sub = Binary I32 Sub
operator_of I32Mul = Binary I32 Mul
operator_of I32DivS = Binary I32 DivS
operator_of I32DivU = Binary I32 DivU
operator_of I32RemS = Binary I32 RemS
operator_of I32RemU = Binary I32 RemU
operator_of I32And = Binary I32 And
operator_of I32Or = Binary I32 Or
operator_of I32Xor = Binary I32 Xor
operator_of I32Shl = Binary I32 Shl
operator_of I32ShrS = Binary I32 ShrS
operator_of I32ShrU = Binary I32 ShrU
operator_of I32Rotl = Binary I32 Rotl
operator_of I32Rotr = Binary I32 Rotr
operator_of I64Clz = Unary I64 Clz
operator_of I64Ctz = Unary I64 Ctz
operator_of I64Popcnt = Unary I64 Popcnt
operator_of I64Add = Binary I64 Add
operator_of I64Sub = Binary I64 Sub
operator_of I64DivS = Binary I64 DivS
operator_of I64DivU = Binary I64 DivU
operator_of I64RemS = Binary I64 RemS
operator_of I64RemU = Binary I64 RemU
operator_of I64And = Binary I64 And
operator_of I64Or = Binary I64 Or
operator_of I64Xor = Binary I64 Xor
operator_of I64Shl = Binary I64 Shl
operator_of I64ShrS = Binary I64 ShrS
operator_of I64ShrU = Binary I64 ShrU
operator_of I64Rotl = Binary I64 Rotl
operator_of I64Rotr = Binary I64 Rotr
operator_of I32WrapI64 = Wrap
operator_of I64ExtendI32S = ExtendS
operator_of I64ExtendI32U = ExtendU
operator_of I32Extend8S = Unary I32 Extend8S
operator_of I32Extend16S = Unary I32 Extend16S
operator_of I64Extend8S = Unary I64 Extend8S
operator_of I64Extend16S = Unary I64 Extend16S
operator_of I64Extend32S = Unary I64 Extend32S

-- the operators that divide, of a quotient or a remainder (4.3.2)
abbrev pub divides : BinaryOp → Bool
divides DivS = true
divides DivU = true
divides RemS = true
divides RemU = true
divides _ = false
