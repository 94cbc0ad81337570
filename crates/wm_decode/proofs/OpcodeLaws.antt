-- Each operation is read by its opcode, and what is read by an opcode has it.
use Rattle.std.proofs.Common.{◌≡◌, ℕ, List, [], ◌∷◌, Bool, true, false, cond, eqb, Option, Some, None, refl, ap, ◌∙◌, eqb-true}
use Rattle.std.specs.Option.{option_or}
use Rattle.wm_ast.specs.declared.operation.NumOp.{NumOp}
use Rattle.wm_ast.specs.declared.operation.NumOp.TheVariants.{I32Eqz, I32Eq, I32Ne, I32LtS, I32LtU, I32GtS, I32GtU, I32LeS, I32LeU, I32GeS, I32GeU, I64Eqz, I64Eq, I64Ne, I64LtS, I64LtU, I64GtS, I64GtU, I64LeS, I64LeU, I64GeS, I64GeU, I32Clz, I32Ctz, I32Popcnt, I32Add, I32Sub, I32Mul, I32DivS, I32DivU, I32RemS, I32RemU, I32And, I32Or, I32Xor, I32Shl, I32ShrS, I32ShrU, I32Rotl, I32Rotr, I64Clz, I64Ctz, I64Popcnt, I64Add, I64Sub, I64DivS, I64DivU, I64RemS, I64RemU, I64And, I64Or, I64Xor, I64Shl, I64ShrS, I64ShrU, I64Rotl, I64Rotr, I32WrapI64, I64ExtendI32S, I64ExtendI32U, I32Extend8S, I32Extend16S, I64Extend8S, I64Extend16S, I64Extend32S}
use Rattle.wm_ast.specs.declared.operation.LoadOp.{LoadOp}
use Rattle.wm_ast.specs.declared.operation.LoadOp.TheVariants.{I32Load, I64Load, I32Load8S, I32Load8U, I32Load16S, I32Load16U, I64Load8S, I64Load8U, I64Load16S, I64Load16U, I64Load32S, I64Load32U}
use Rattle.wm_ast.specs.declared.operation.StoreOp.{StoreOp}
use Rattle.wm_ast.specs.declared.operation.StoreOp.TheVariants.{I32Store, I64Store, I32Store8, I32Store16, I64Store8, I64Store16, I64Store32}
use Rattle.wm_ast.specs.Code.{Code, num, load, store}
use Rattle.wm_ast.specs.Opcode.{num_byte, load_byte, store_byte}
use Rattle.wm_frame.specs.Reading.{Reader}
use Rattle.wm_frame.proofs.Readers.{some_is}
use Rattle.wm_decode.specs.steps.Instruction.{access_at, op_by, plain_by, index_by, operand_by, access_by, simple_by, simple_op}
use Rattle.wm_decode.specs.steps.Opcodes.{first_with, num_at, comparison_at, comparison_ops, i32_operation_at, i32_operation_ops, i64_operation_at, i64_operation_ops, conversion_at, conversion_ops, load_at, load_ops, store_at, store_ops}

pub num_again : (code : Reader Code) (op : NumOp) (rest : List ℕ) → op_by code (num_byte op) rest ≡ Some (num op, rest)
unfolding op_by plain_by index_by operand_by access_by simple_by simple_op
num_again code I32Eqz rest = refl
num_again code I32Eq rest = refl
num_again code I32Ne rest = refl
num_again code I32LtS rest = refl
num_again code I32LtU rest = refl
num_again code I32GtS rest = refl
num_again code I32GtU rest = refl
num_again code I32LeS rest = refl
num_again code I32LeU rest = refl
num_again code I32GeS rest = refl
num_again code I32GeU rest = refl
num_again code I64Eqz rest = refl
num_again code I64Eq rest = refl
num_again code I64Ne rest = refl
num_again code I64LtS rest = refl
num_again code I64LtU rest = refl
num_again code I64GtS rest = refl
num_again code I64GtU rest = refl
num_again code I64LeS rest = refl
num_again code I64LeU rest = refl
num_again code I64GeS rest = refl
num_again code I64GeU rest = refl
num_again code I32Clz rest = refl
num_again code I32Ctz rest = refl
num_again code I32Popcnt rest = refl
num_again code I32Add rest = refl
num_again code I32Sub rest = refl
num_again code I32Mul rest = refl
num_again code I32DivS rest = refl
num_again code I32DivU rest = refl
num_again code I32RemS rest = refl
num_again code I32RemU rest = refl
num_again code I32And rest = refl
num_again code I32Or rest = refl
num_again code I32Xor rest = refl
num_again code I32Shl rest = refl
num_again code I32ShrS rest = refl
num_again code I32ShrU rest = refl
num_again code I32Rotl rest = refl
num_again code I32Rotr rest = refl
num_again code I64Clz rest = refl
num_again code I64Ctz rest = refl
num_again code I64Popcnt rest = refl
num_again code I64Add rest = refl
num_again code I64Sub rest = refl
num_again code I64DivS rest = refl
num_again code I64DivU rest = refl
num_again code I64RemS rest = refl
num_again code I64RemU rest = refl
num_again code I64And rest = refl
num_again code I64Or rest = refl
num_again code I64Xor rest = refl
num_again code I64Shl rest = refl
num_again code I64ShrS rest = refl
num_again code I64ShrU rest = refl
num_again code I64Rotl rest = refl
num_again code I64Rotr rest = refl
num_again code I32WrapI64 rest = refl
num_again code I64ExtendI32S rest = refl
num_again code I64ExtendI32U rest = refl
num_again code I32Extend8S rest = refl
num_again code I32Extend16S rest = refl
num_again code I64Extend8S rest = refl
num_again code I64Extend16S rest = refl
num_again code I64Extend32S rest = refl

pub load_again : (code : Reader Code) (op : LoadOp) (rest : List ℕ) → op_by code (load_byte op) rest ≡ access_at (load op) rest
unfolding op_by plain_by index_by operand_by access_by
load_again code I32Load rest = refl
load_again code I64Load rest = refl
load_again code I32Load8S rest = refl
load_again code I32Load8U rest = refl
load_again code I32Load16S rest = refl
load_again code I32Load16U rest = refl
load_again code I64Load8S rest = refl
load_again code I64Load8U rest = refl
load_again code I64Load16S rest = refl
load_again code I64Load16U rest = refl
load_again code I64Load32S rest = refl
load_again code I64Load32U rest = refl

pub store_again : (code : Reader Code) (op : StoreOp) (rest : List ℕ) → op_by code (store_byte op) rest ≡ access_at (store op) rest
unfolding op_by plain_by index_by operand_by access_by
store_again code I32Store rest = refl
store_again code I64Store rest = refl
store_again code I32Store8 rest = refl
store_again code I32Store16 rest = refl
store_again code I64Store8 rest = refl
store_again code I64Store16 rest = refl
store_again code I64Store32 rest = refl

first_or : {A : Type 0} (byte : A → ℕ) (t : Bool) (b : ℕ) (o op : A) (others : Option A) → eqb b (byte o) ≡ t → cond t (Some o) others ≡ Some op → (others ≡ Some op → b ≡ byte op) → b ≡ byte op
first_or byte true b o op others is h rest = eqb-true b (byte o) is ∙ ap byte (some_is o op h)
first_or byte false b o op others is h rest = rest h

first_takes : {A : Type 0} (byte : A → ℕ) (b : ℕ) (ops : List A) (op : A) → first_with byte b ops ≡ Some op → b ≡ byte op
first_takes byte b [] op e = absurd cc
first_takes byte b (o ∷ ops) op e = first_or byte (eqb b (byte o)) b o op (first_with byte b ops) refl e (λ h. first_takes byte b ops op h)

either : (x y : Option NumOp) (op : NumOp) (b : ℕ) → ((o : NumOp) → x ≡ Some o → b ≡ num_byte o) → ((o : NumOp) → y ≡ Some o → b ≡ num_byte o) → option_or x y ≡ Some op → b ≡ num_byte op
either None y op b f g e = g op e
either (Some o) y op b f g e = f op e

pub num_takes : (b : ℕ) (op : NumOp) → num_at b ≡ Some op → b ≡ num_byte op
num_takes b op e =
    either (option_or (option_or (comparison_at b) (i32_operation_at b)) (i64_operation_at b)) (conversion_at b) op b
    (λ o h. either (option_or (comparison_at b) (i32_operation_at b)) (i64_operation_at b) o b
    (λ o h. either (comparison_at b) (i32_operation_at b) o b (first_takes num_byte b comparison_ops) (first_takes num_byte b i32_operation_ops) h)
    (first_takes num_byte b i64_operation_ops) h)
    (first_takes num_byte b conversion_ops) e

pub load_takes : (b : ℕ) (op : LoadOp) → load_at b ≡ Some op → b ≡ load_byte op
load_takes b op e = first_takes load_byte b load_ops op e

pub store_takes : (b : ℕ) (op : StoreOp) → store_at b ≡ Some op → b ≡ store_byte op
store_takes b op e = first_takes store_byte b store_ops op e
