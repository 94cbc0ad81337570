-- Instructions in the binary format (5.4).
use Rattle.std.specs.Prelude.{◌≡◌, ℕ, suc, ◌≤◌, max, List, [], ◌∷◌, ◌++◌, length, Option, Some, None, ◌⊎◌}
use Rattle.mc_nbt.specs.declared.value.Value.{Value}
use Rattle.mc_nbt.specs.declared.value.Value.TheVariants as values
use Rattle.wm_ast.specs.declared.module.TheConstants.{MAX_DEPTH}
use Rattle.wm_ast.specs.declared.module.ValType.{ValType}
use Rattle.wm_ast.specs.declared.module.ValType.TheVariants.{I32, I64, F32, F64}
use Rattle.wm_ast.specs.Code.{Op, unreachable, nop, block, loop, if_else, br, br_if, br_table, return, call}
use Rattle.wm_ast.specs.Code.{call_indirect, drop_one, select, local_get, local_set, local_tee, global_get, global_set}
use Rattle.wm_ast.specs.Code.{load, store, memory_size, memory_grow, memory_copy, memory_fill, const, num, float, mul64}
use Rattle.wm_ast.specs.Code.{Code, nil, cons}
use Rattle.wm_ast.specs.Number.{IsUnsigned, IsSigned}
use Rattle.wm_ast.specs.Opcode.{opcode, prefix, copy_number, fill_number, FloatOperand, no_operand, memory_argument}
use Rattle.wm_ast.specs.Opcode.{constant, float_operand}
use Rattle.wm_ast.specs.Vector.{SpellsVector, SpellsIndex}

-- a value type (5.3.1)
abbrev pub type_byte : ValType → ℕ
type_byte I32 = 0x7F
type_byte I64 = 0x7E
type_byte F32 = 0x7D
type_byte F64 = 0x7C

-- a block type: none, or that of the result (5.3.2)
abbrev pub block_byte : Option ValType → ℕ
block_byte None = 0x40
block_byte (Some t) = type_byte t

-- an opcode and an index
abbrev pub SpellsIndexed : ℕ → ℕ → List ℕ → Type 0
SpellsIndexed byte n bytes = (index : List ℕ) × SpellsIndex n index × (bytes ≡ byte ∷ index)

-- an alignment and an offset (5.4.4)
abbrev pub SpellsMemoryArgument : ℕ → ℕ → List ℕ → Type 0
SpellsMemoryArgument align offset bytes =
    (first : List ℕ) × (second : List ℕ) × IsUnsigned 32 first align × IsUnsigned 32 second offset
    × (bytes ≡ first ++ second)

-- an opcode with an alignment and an offset (5.4.4)
abbrev pub SpellsAccess : ℕ → ℕ → ℕ → List ℕ → Type 0
SpellsAccess byte align offset bytes =
    (argument : List ℕ) × SpellsMemoryArgument align offset argument × (bytes ≡ byte ∷ argument)

-- the labels and the default label (5.4.1)
abbrev pub SpellsTable : List ℕ → ℕ → List ℕ → Type 0
SpellsTable labels last bytes =
    (first : List ℕ) × (second : List ℕ) × SpellsVector SpellsIndex labels first × SpellsIndex last second
    × (bytes ≡ opcode (br_table labels last) ∷ (first ++ second))

-- the index of a type, and that of the table, which is 0 (5.4.1)
abbrev pub SpellsIndirect : ℕ → List ℕ → Type 0
SpellsIndirect n bytes =
    (index : List ℕ) × (table : List ℕ) × SpellsIndex n index × SpellsIndex 0 table
    × (bytes ≡ opcode (call_indirect n) ∷ (index ++ table))

-- a constant (5.4.5)
abbrev pub SpellsConst : Value → List ℕ → Type 0
SpellsConst (values.I32 n) bytes =
    (number : List ℕ) × IsSigned 32 number n × (bytes ≡ opcode (const (values.I32 n)) ∷ number)
SpellsConst (values.I64 n) bytes =
    (number : List ℕ) × IsSigned 64 number n × (bytes ≡ opcode (const (values.I64 n)) ∷ number)

-- `memory.copy` and `memory.fill` of edition 2.0 (there 5.4.6): the prefix, the number of the instruction, and a byte
-- 00
-- for each memory
abbrev pub SpellsPrefixed : ℕ → List ℕ → List ℕ → Type 0
SpellsPrefixed n zeros bytes = (number : List ℕ) × IsUnsigned 32 number n × (bytes ≡ prefix ∷ (number ++ zeros))

-- what follows the opcode of an instruction on floats, whichever it is (5.4.4, 5.4.5)
abbrev pub SpellsFloatOperand : Option FloatOperand → List ℕ → Type 0
SpellsFloatOperand (Some no_operand) bytes = bytes ≡ []
SpellsFloatOperand (Some memory_argument) bytes = (align : ℕ) × (offset : ℕ) × SpellsMemoryArgument align offset bytes
SpellsFloatOperand (Some (constant width)) bytes = length bytes ≡ width
SpellsFloatOperand None bytes = ⊥

-- an instruction on floats (5.4.4, 5.4.5)
abbrev pub SpellsFloat : ℕ → List ℕ → Type 0
SpellsFloat byte bytes = (operand : List ℕ) × SpellsFloatOperand (float_operand byte) operand × (bytes ≡ byte ∷ operand)

-- an opcode, a block type, instructions and the end (5.4.1)
abbrev pub SpellsBlock : ℕ → Option ValType → (List ℕ → Type 0) → List ℕ → Type 0
SpellsBlock byte ty Body bytes =
    (body : List ℕ) × Body body × (bytes ≡ byte ∷ (block_byte ty ∷ (body ++ 0x0B ∷ [])))

-- an opcode, a block type, and two arms with an `else` between them and the end (5.4.1)
abbrev pub SpellsArms : ℕ → Option ValType → (List ℕ → Type 0) → (List ℕ → Type 0) → List ℕ → Type 0
SpellsArms byte ty First Second bytes =
    (first : List ℕ) × (second : List ℕ) × First first × Second second
    × (bytes ≡ byte ∷ (block_byte ty ∷ (first ++ 0x05 ∷ (second ++ 0x0B ∷ []))))

-- no instructions
abbrev pub IsNil : Code → Type 0
IsNil nil = Unit {0}
IsNil (cons i is) = ⊥

abbrev mutual
  -- an instruction (5.4.1 to 5.4.5)
  pub SpellsOp : Op → List ℕ → Type 0
  SpellsOp unreachable bytes = bytes ≡ opcode unreachable ∷ []
  SpellsOp nop bytes = bytes ≡ opcode nop ∷ []
  SpellsOp (block ty body) bytes = SpellsBlock (opcode (block ty body)) ty (SpellsCode body) bytes
  SpellsOp (loop ty body) bytes = SpellsBlock (opcode (loop ty body)) ty (SpellsCode body) bytes
  -- a missing `else` is an empty arm
  SpellsOp (if_else ty first second) bytes =
      SpellsArms (opcode (if_else ty first second)) ty (SpellsCode first) (SpellsCode second) bytes
      ⊎ (IsNil second × SpellsBlock (opcode (if_else ty first second)) ty (SpellsCode first) bytes)
  SpellsOp (br l) bytes = SpellsIndexed (opcode (br l)) l bytes
  SpellsOp (br_if l) bytes = SpellsIndexed (opcode (br_if l)) l bytes
  SpellsOp (br_table ls l) bytes = SpellsTable ls l bytes
  SpellsOp return bytes = bytes ≡ opcode return ∷ []
  SpellsOp (call f) bytes = SpellsIndexed (opcode (call f)) f bytes
  SpellsOp (call_indirect t) bytes = SpellsIndirect t bytes
  SpellsOp drop_one bytes = bytes ≡ opcode drop_one ∷ []
  SpellsOp select bytes = bytes ≡ opcode select ∷ []
  SpellsOp (local_get x) bytes = SpellsIndexed (opcode (local_get x)) x bytes
  SpellsOp (local_set x) bytes = SpellsIndexed (opcode (local_set x)) x bytes
  SpellsOp (local_tee x) bytes = SpellsIndexed (opcode (local_tee x)) x bytes
  SpellsOp (global_get x) bytes = SpellsIndexed (opcode (global_get x)) x bytes
  SpellsOp (global_set x) bytes = SpellsIndexed (opcode (global_set x)) x bytes
  SpellsOp (load op align offset) bytes = SpellsAccess (opcode (load op align offset)) align offset bytes
  SpellsOp (store op align offset) bytes = SpellsAccess (opcode (store op align offset)) align offset bytes
  SpellsOp memory_size bytes = bytes ≡ opcode memory_size ∷ 0x00 ∷ []
  SpellsOp memory_grow bytes = bytes ≡ opcode memory_grow ∷ 0x00 ∷ []
  SpellsOp memory_copy bytes = SpellsPrefixed copy_number (0x00 ∷ 0x00 ∷ []) bytes
  SpellsOp memory_fill bytes = SpellsPrefixed fill_number (0x00 ∷ []) bytes
  SpellsOp (const v) bytes = SpellsConst v bytes
  SpellsOp (num op) bytes = bytes ≡ opcode (num op) ∷ []
  SpellsOp (float byte) bytes = SpellsFloat byte bytes
  SpellsOp mul64 bytes = bytes ≡ opcode mul64 ∷ []

  -- one instruction after the other
  pub SpellsCode : Code → List ℕ → Type 0
  SpellsCode nil bytes = bytes ≡ []
  SpellsCode (cons i is) bytes =
      (first : List ℕ) × (others : List ℕ) × SpellsOp i first × SpellsCode is others × (bytes ≡ first ++ others)

abbrev mutual
  -- how many blocks stand round one place in an instruction, at most; the inside of an empty block is a place
  pub op_depth : Op → ℕ
  op_depth (block ty body) = suc (code_depth body)
  op_depth (loop ty body) = suc (code_depth body)
  op_depth (if_else ty first second) = suc (max (code_depth first) (code_depth second))
  op_depth _ = 0

  -- how many blocks stand round one place in a sequence, at most
  pub code_depth : Code → ℕ
  code_depth nil = 0
  code_depth (cons i is) = max (op_depth i) (code_depth is)

-- an expression: instructions and the end (5.4.6). Their blocks nest at most 1,024 deep.
pub record SpellsExpr (code : Code) (bytes : List ℕ) : Type 0 where
  pub inside : List ℕ
  pub spells : SpellsCode code inside
  pub whole : bytes ≡ inside ++ 0x0B ∷ []
  pub depth : code_depth code ≤ MAX_DEPTH
