-- The opcodes of instructions (5.4).
use Rattle.std.specs.Prelude.{ℕ, Option, Some, None, nat_le, ◌==◌, ◌&&◌, ◌||◌, Bool, if◌then◌else◌}
use Rattle.wm_ast.specs.declared.operation.NumOp.{NumOp}
use Rattle.wm_ast.specs.declared.operation.NumOp.TheVariants.{I32Eqz, I32Eq, I32Ne, I32LtS, I32LtU, I32GtS, I32GtU}
use Rattle.wm_ast.specs.declared.operation.NumOp.TheVariants.{I32LeS, I32LeU, I32GeS, I32GeU, I64Eqz, I64Eq, I64Ne}
use Rattle.wm_ast.specs.declared.operation.NumOp.TheVariants.{I64LtS, I64LtU, I64GtS, I64GtU, I64LeS, I64LeU, I64GeS}
use Rattle.wm_ast.specs.declared.operation.NumOp.TheVariants.{I64GeU, I32Clz, I32Ctz, I32Popcnt, I32Add, I32Sub, I32Mul}
use Rattle.wm_ast.specs.declared.operation.NumOp.TheVariants.{I32DivS, I32DivU, I32RemS, I32RemU, I32And, I32Or, I32Xor}
use Rattle.wm_ast.specs.declared.operation.NumOp.TheVariants.{I32Shl, I32ShrS, I32ShrU, I32Rotl, I32Rotr, I64Clz}
use Rattle.wm_ast.specs.declared.operation.NumOp.TheVariants.{I64Ctz, I64Popcnt, I64Add, I64Sub, I64DivS, I64DivU}
use Rattle.wm_ast.specs.declared.operation.NumOp.TheVariants.{I64RemS, I64RemU, I64And, I64Or, I64Xor, I64Shl, I64ShrS}
use Rattle.wm_ast.specs.declared.operation.NumOp.TheVariants.{I64ShrU, I64Rotl, I64Rotr, I32WrapI64, I64ExtendI32S}
use Rattle.wm_ast.specs.declared.operation.NumOp.TheVariants.{I64ExtendI32U, I32Extend8S, I32Extend16S, I64Extend8S}
use Rattle.wm_ast.specs.declared.operation.NumOp.TheVariants.{I64Extend16S, I64Extend32S}
use Rattle.wm_ast.specs.declared.operation.LoadOp.{LoadOp}
use Rattle.wm_ast.specs.declared.operation.LoadOp.TheVariants.{I32Load, I64Load, I32Load8S, I32Load8U, I32Load16S}
use Rattle.wm_ast.specs.declared.operation.LoadOp.TheVariants.{I32Load16U, I64Load8S, I64Load8U, I64Load16S, I64Load16U}
use Rattle.wm_ast.specs.declared.operation.LoadOp.TheVariants.{I64Load32S, I64Load32U}
use Rattle.wm_ast.specs.declared.operation.StoreOp.{StoreOp}
use Rattle.wm_ast.specs.declared.operation.StoreOp.TheVariants.{I32Store, I64Store, I32Store8, I32Store16, I64Store8}
use Rattle.wm_ast.specs.declared.operation.StoreOp.TheVariants.{I64Store16, I64Store32}
use Rattle.mc_nbt.specs.declared.value.Value.TheVariants as values
use Rattle.wm_ast.specs.Code.{Op, unreachable, nop, block, loop, if_else, br, br_if, br_table, return, call}
use Rattle.wm_ast.specs.Code.{call_indirect, drop_one, select, local_get, local_set, local_tee, global_get, global_set}
use Rattle.wm_ast.specs.Code.{load, store, memory_size, memory_grow, memory_copy, memory_fill, const, num, float, mul64}

-- a number operation (5.4.5); the sign extensions, from 0xC0 on, are those of edition 2.0 (5.4.7)
abbrev pub num_byte : NumOp → ℕ
num_byte I32Eqz = 0x45
num_byte I32Eq = 0x46
num_byte I32Ne = 0x47
num_byte I32LtS = 0x48
num_byte I32LtU = 0x49
num_byte I32GtS = 0x4A
num_byte I32GtU = 0x4B
num_byte I32LeS = 0x4C
num_byte I32LeU = 0x4D
num_byte I32GeS = 0x4E
num_byte I32GeU = 0x4F
num_byte I64Eqz = 0x50
num_byte I64Eq = 0x51
num_byte I64Ne = 0x52
num_byte I64LtS = 0x53
num_byte I64LtU = 0x54
num_byte I64GtS = 0x55
num_byte I64GtU = 0x56
num_byte I64LeS = 0x57
num_byte I64LeU = 0x58
num_byte I64GeS = 0x59
num_byte I64GeU = 0x5A
num_byte I32Clz = 0x67
num_byte I32Ctz = 0x68
num_byte I32Popcnt = 0x69
num_byte I32Add = 0x6A
num_byte I32Sub = 0x6B
num_byte I32Mul = 0x6C
num_byte I32DivS = 0x6D
num_byte I32DivU = 0x6E
num_byte I32RemS = 0x6F
num_byte I32RemU = 0x70
num_byte I32And = 0x71
num_byte I32Or = 0x72
num_byte I32Xor = 0x73
num_byte I32Shl = 0x74
num_byte I32ShrS = 0x75
num_byte I32ShrU = 0x76
num_byte I32Rotl = 0x77
num_byte I32Rotr = 0x78
num_byte I64Clz = 0x79
num_byte I64Ctz = 0x7A
num_byte I64Popcnt = 0x7B
num_byte I64Add = 0x7C
num_byte I64Sub = 0x7D
num_byte I64DivS = 0x7F
num_byte I64DivU = 0x80
num_byte I64RemS = 0x81
num_byte I64RemU = 0x82
num_byte I64And = 0x83
num_byte I64Or = 0x84
num_byte I64Xor = 0x85
num_byte I64Shl = 0x86
num_byte I64ShrS = 0x87
num_byte I64ShrU = 0x88
num_byte I64Rotl = 0x89
num_byte I64Rotr = 0x8A
num_byte I32WrapI64 = 0xA7
num_byte I64ExtendI32S = 0xAC
num_byte I64ExtendI32U = 0xAD
num_byte I32Extend8S = 0xC0
num_byte I32Extend16S = 0xC1
num_byte I64Extend8S = 0xC2
num_byte I64Extend16S = 0xC3
num_byte I64Extend32S = 0xC4

-- a load of an integer (5.4.4)
abbrev pub load_byte : LoadOp → ℕ
load_byte I32Load = 0x28
load_byte I64Load = 0x29
load_byte I32Load8S = 0x2C
load_byte I32Load8U = 0x2D
load_byte I32Load16S = 0x2E
load_byte I32Load16U = 0x2F
load_byte I64Load8S = 0x30
load_byte I64Load8U = 0x31
load_byte I64Load16S = 0x32
load_byte I64Load16U = 0x33
load_byte I64Load32S = 0x34
load_byte I64Load32U = 0x35

-- a store of an integer (5.4.4)
abbrev pub store_byte : StoreOp → ℕ
store_byte I32Store = 0x36
store_byte I64Store = 0x37
store_byte I32Store8 = 0x3A
store_byte I32Store16 = 0x3B
store_byte I64Store8 = 0x3C
store_byte I64Store16 = 0x3D
store_byte I64Store32 = 0x3E

-- the first byte of the instructions that have a number of their own behind it (edition 2.0, 5.4.6)
abbrev pub prefix : ℕ
prefix = 0xFC

-- the numbers of `memory.copy` and `memory.fill` behind the prefix (edition 2.0, 5.4.6)
abbrev pub copy_number : ℕ
copy_number = 10

abbrev pub fill_number : ℕ
fill_number = 11

-- the first byte of an instruction (5.4): its opcode, or the prefix of `memory.copy` and `memory.fill`
abbrev pub opcode : Op → ℕ
opcode unreachable = 0x00
opcode nop = 0x01
opcode (block ty body) = 0x02
opcode (loop ty body) = 0x03
opcode (if_else ty first second) = 0x04
opcode (br l) = 0x0C
opcode (br_if l) = 0x0D
opcode (br_table ls l) = 0x0E
opcode return = 0x0F
opcode (call f) = 0x10
opcode (call_indirect t) = 0x11
opcode drop_one = 0x1A
opcode select = 0x1B
opcode (local_get x) = 0x20
opcode (local_set x) = 0x21
opcode (local_tee x) = 0x22
opcode (global_get x) = 0x23
opcode (global_set x) = 0x24
opcode (load op align offset) = load_byte op
opcode (store op align offset) = store_byte op
opcode memory_size = 0x3F
opcode memory_grow = 0x40
opcode memory_copy = prefix
opcode memory_fill = prefix
opcode (const (values.I32 n)) = 0x41
opcode (const (values.I64 n)) = 0x42
opcode (num op) = num_byte op
opcode (float byte) = byte
opcode mul64 = 0x7E

-- from the least to the most
abbrev between : ℕ → ℕ → ℕ → Bool
between least most byte = nat_le least byte && nat_le byte most

-- what follows the opcode of an instruction on floats: nothing, an alignment and an offset, or a constant of so many
-- bytes
pub data FloatOperand : Type 0 where
  no_operand memory_argument : FloatOperand
  constant : ℕ → FloatOperand

-- f32.load, f64.load, f32.store and f64.store (5.4.4)
abbrev pub is_float_access : ℕ → Bool
is_float_access byte = between 0x2A 0x2B byte || between 0x38 0x39 byte

-- the comparisons, the arithmetic, the conversions from floats and those with floats (5.4.5)
abbrev pub is_float_operation : ℕ → Bool
is_float_operation byte =
    between 0x5B 0x66 byte || between 0x8B 0xA6 byte || between 0xA8 0xAB byte || between 0xAE 0xBF byte

-- what follows an opcode of an instruction on floats, where it is one (5.4.4, 5.4.5)
abbrev pub float_operand : ℕ → Option FloatOperand
float_operand byte =
    if is_float_operation byte then Some no_operand
    else (if is_float_access byte then Some memory_argument
    else (if byte == 0x43 then Some (constant 4)
    else (if byte == 0x44 then Some (constant 8) else None)))
