-- The operations by their opcodes.
use Rattle.std.specs.Prelude.{ℕ, List, [], ◌∷◌, Option, Some, None, ◌==◌, if◌then◌else◌}
use Rattle.std.specs.Option.{option_or}
use Rattle.wm_ast.specs.declared.operation.NumOp.{NumOp}
use Rattle.wm_ast.specs.declared.operation.NumOp.TheVariants.{I32Eqz, I32Eq, I32Ne, I32LtS, I32LtU, I32GtS, I32GtU}
use Rattle.wm_ast.specs.declared.operation.NumOp.TheVariants.{I32LeS, I32LeU, I32GeS, I32GeU, I64Eqz, I64Eq, I64Ne}
use Rattle.wm_ast.specs.declared.operation.NumOp.TheVariants.{I64LtS, I64LtU, I64GtS, I64GtU, I64LeS, I64LeU, I64GeS}
use Rattle.wm_ast.specs.declared.operation.NumOp.TheVariants.{I64GeU, I32Clz, I32Ctz, I32Popcnt, I32Add, I32Sub, I32Mul}
use Rattle.wm_ast.specs.declared.operation.NumOp.TheVariants.{I32DivS, I32DivU, I32RemS, I32RemU, I32And, I32Or, I32Xor}
use Rattle.wm_ast.specs.declared.operation.NumOp.TheVariants.{I32Shl, I32ShrS, I32ShrU, I32Rotl, I32Rotr, I64Clz}
use Rattle.wm_ast.specs.declared.operation.NumOp.TheVariants.{I64Ctz, I64Popcnt, I64Add, I64Sub, I64DivS, I64DivU}
use Rattle.wm_ast.specs.declared.operation.NumOp.TheVariants.{I64RemS, I64RemU, I64And, I64Or, I64Xor, I64Shl, I64ShrS}
use Rattle.wm_ast.specs.declared.operation.NumOp.TheVariants.{I64ShrU, I64Rotl, I64Rotr, I32WrapI64, I64ExtendI32S}
use Rattle.wm_ast.specs.declared.operation.NumOp.TheVariants.{I64ExtendI32U, I32Extend8S, I32Extend16S, I64Extend8S}
use Rattle.wm_ast.specs.declared.operation.NumOp.TheVariants.{I64Extend16S, I64Extend32S}
use Rattle.wm_ast.specs.declared.operation.LoadOp.{LoadOp}
use Rattle.wm_ast.specs.declared.operation.LoadOp.TheVariants.{I32Load, I64Load, I32Load8S, I32Load8U, I32Load16S}
use Rattle.wm_ast.specs.declared.operation.LoadOp.TheVariants.{I32Load16U, I64Load8S, I64Load8U, I64Load16S, I64Load16U}
use Rattle.wm_ast.specs.declared.operation.LoadOp.TheVariants.{I64Load32S, I64Load32U}
use Rattle.wm_ast.specs.declared.operation.StoreOp.{StoreOp}
use Rattle.wm_ast.specs.declared.operation.StoreOp.TheVariants.{I32Store, I64Store, I32Store8, I32Store16, I64Store8}
use Rattle.wm_ast.specs.declared.operation.StoreOp.TheVariants.{I64Store16, I64Store32}
use Rattle.wm_ast.specs.Opcode.{num_byte, load_byte, store_byte}

abbrev pub comparison_ops : List NumOp
comparison_ops =
    I32Eqz ∷ I32Eq ∷ I32Ne ∷ I32LtS ∷ I32LtU ∷ I32GtS ∷ I32GtU ∷ I32LeS ∷ I32LeU ∷ I32GeS ∷ I32GeU ∷ I64Eqz ∷ I64Eq
    ∷ I64Ne ∷ I64LtS ∷ I64LtU ∷ I64GtS ∷ I64GtU ∷ I64LeS ∷ I64LeU ∷ I64GeS ∷ I64GeU ∷ []

abbrev pub i32_operation_ops : List NumOp
i32_operation_ops =
    I32Clz ∷ I32Ctz ∷ I32Popcnt ∷ I32Add ∷ I32Sub ∷ I32Mul ∷ I32DivS ∷ I32DivU ∷ I32RemS ∷ I32RemU ∷ I32And ∷ I32Or
    ∷ I32Xor ∷ I32Shl ∷ I32ShrS ∷ I32ShrU ∷ I32Rotl ∷ I32Rotr ∷ []

abbrev pub i64_operation_ops : List NumOp
i64_operation_ops =
    I64Clz ∷ I64Ctz ∷ I64Popcnt ∷ I64Add ∷ I64Sub ∷ I64DivS ∷ I64DivU ∷ I64RemS ∷ I64RemU ∷ I64And ∷ I64Or ∷ I64Xor
    ∷ I64Shl ∷ I64ShrS ∷ I64ShrU ∷ I64Rotl ∷ I64Rotr ∷ []

abbrev pub conversion_ops : List NumOp
conversion_ops =
    I32WrapI64 ∷ I64ExtendI32S ∷ I64ExtendI32U ∷ I32Extend8S ∷ I32Extend16S ∷ I64Extend8S ∷ I64Extend16S
    ∷ I64Extend32S ∷ []

abbrev pub load_ops : List LoadOp
load_ops =
    I32Load ∷ I64Load ∷ I32Load8S ∷ I32Load8U ∷ I32Load16S ∷ I32Load16U ∷ I64Load8S ∷ I64Load8U ∷ I64Load16S
    ∷ I64Load16U ∷ I64Load32S ∷ I64Load32U ∷ []

abbrev pub store_ops : List StoreOp
store_ops = I32Store ∷ I64Store ∷ I32Store8 ∷ I32Store16 ∷ I64Store8 ∷ I64Store16 ∷ I64Store32 ∷ []

-- the first of some operations that has this opcode
abbrev pub first_with : {A : Type 0} → (A → ℕ) → ℕ → List A → Option A
first_with byte b [] = None
first_with byte b (op ∷ ops) = if b == byte op then Some op else first_with byte b ops

abbrev pub comparison_at : ℕ → Option NumOp
comparison_at b = first_with num_byte b comparison_ops

abbrev pub i32_operation_at : ℕ → Option NumOp
i32_operation_at b = first_with num_byte b i32_operation_ops

abbrev pub i64_operation_at : ℕ → Option NumOp
i64_operation_at b = first_with num_byte b i64_operation_ops

abbrev pub conversion_at : ℕ → Option NumOp
conversion_at b = first_with num_byte b conversion_ops

abbrev pub num_at : ℕ → Option NumOp
num_at b =
    option_or (option_or (option_or (comparison_at b) (i32_operation_at b)) (i64_operation_at b)) (conversion_at b)

abbrev pub load_at : ℕ → Option LoadOp
load_at b = first_with load_byte b load_ops

abbrev pub store_at : ℕ → Option StoreOp
store_at b = first_with store_byte b store_ops
