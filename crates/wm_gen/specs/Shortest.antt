-- The shortest spellings of the parts of a module: each number in as few bytes as there are for it, no custom section,
-- and no section that is empty. They speak of what the workload has: functions, one memory and exports of functions,
-- and of its instructions.
use Rattle.std.specs.Prelude.{ℕ, zero, suc, ◌+◌, ◌/◌, ◌%◌, pos, nat_lt, if◌then◌else◌, List, [], ◌∷◌, ◌++◌, length, map}
use Rattle.std.specs.List.{flat_map}
use Rattle.mc_nbt.specs.declared.value.Value.TheVariants as values
use Rattle.wm_ast.specs.declared.module.ValType.{ValType}
use Rattle.wm_ast.specs.declared.module.FuncType.{FuncType}
use Rattle.wm_ast.specs.declared.module.Limits.{Limits}
use Rattle.wm_ast.specs.declared.module.Run.{Run}
use Rattle.wm_ast.specs.declared.module.Export.{Export}
use Rattle.wm_ast.specs.declared.module.Module.{Module}
use Rattle.wm_ast.specs.Code.{Op, loop, br_if, call, local_get, local_set, local_tee, load, store, const}
use Rattle.wm_ast.specs.Code.{Code, nil, cons}
use Rattle.wm_ast.specs.Instruction.{type_byte, block_byte}
use Rattle.wm_ast.specs.Opcode.{opcode}
use Rattle.wm_ast.specs.Part.{Body, space_byte}
use Rattle.wm_ast.specs.Section.{header}
use Rattle.wm_ast.specs.Spelling.{kind_of, body_of}
use Rattle.wm_ast.specs.View.{code_of}

-- A number in LEB128, the lowest seven bits first: the last byte is the first one that can be it, which holds a number
-- below `last`. So many bytes may stand before it.
unfoldable pub sevens : ℕ → ℕ → ℕ → List ℕ
sevens last zero n = n ∷ []
sevens last (suc k) n = if nat_lt n last then n ∷ [] else ((n % 128 + 128) ∷ sevens last k (n / 128))

-- an unsigned number
unfoldable pub unsigned : ℕ → List ℕ
unsigned n = sevens 128 9 n

-- a number that isn't below 0, as a signed one: the bit 64 of its last byte is 0
unfoldable pub signed : ℕ → List ℕ
signed n = sevens 64 9 n

-- a vector: how many there are, and each of them
abbrev pub vector : {A : Type 0} → (A → List ℕ) → List A → List ℕ
vector spelling xs = unsigned (length xs) ++ flat_map spelling xs

abbrev mutual
  -- an instruction; constants aren't below 0
  pub op_bytes : Op → List ℕ
  op_bytes (loop ty body) = opcode (loop ty body) ∷ (block_byte ty ∷ (code_bytes body ++ 0x0B ∷ []))
  op_bytes (br_if l) = opcode (br_if l) ∷ unsigned l
  op_bytes (call f) = opcode (call f) ∷ unsigned f
  op_bytes (local_get x) = opcode (local_get x) ∷ unsigned x
  op_bytes (local_set x) = opcode (local_set x) ∷ unsigned x
  op_bytes (local_tee x) = opcode (local_tee x) ∷ unsigned x
  op_bytes (load op align offset) = opcode (load op align offset) ∷ (unsigned align ++ unsigned offset)
  op_bytes (store op align offset) = opcode (store op align offset) ∷ (unsigned align ++ unsigned offset)
  op_bytes (const (values.I32 (pos n))) = opcode (const (values.I32 (pos n))) ∷ signed n
  op_bytes (const (values.I64 (pos n))) = opcode (const (values.I64 (pos n))) ∷ signed n
  op_bytes i = opcode i ∷ []

  -- one instruction after the other
  pub code_bytes : Code → List ℕ
  code_bytes nil = []
  code_bytes (cons i is) = op_bytes i ++ code_bytes is

abbrev pub val_type_bytes : ValType → List ℕ
val_type_bytes t = type_byte t ∷ []

abbrev pub func_type_bytes : FuncType → List ℕ
func_type_bytes t = 0x60 ∷ (vector val_type_bytes t.params ++ vector val_type_bytes t.results)

-- a memory without a greatest size
abbrev pub memory_bytes : Limits → List ℕ
memory_bytes l = 0x00 ∷ unsigned l.min

abbrev pub export_bytes : Export → List ℕ
export_bytes e = (unsigned (length e.name) ++ e.name) ++ space_byte e.space ∷ unsigned e.index

abbrev pub run_bytes : Run → List ℕ
run_bytes r = unsigned r.count ++ type_byte r.ty ∷ []

-- locals and a body, and the end
abbrev pub function_bytes : Body → List ℕ
function_bytes b = vector run_bytes b.locals ++ (code_bytes (code_of b.body) ++ 0x0B ∷ [])

-- with the number of these bytes
abbrev pub body_bytes : Body → List ℕ
body_bytes b = unsigned (length (function_bytes b)) ++ function_bytes b

-- a section: its id, the size of its content, and the content
abbrev pub section_bytes : ℕ → List ℕ → List ℕ
section_bytes id content = id ∷ (unsigned (length content) ++ content)

-- a module that has types, functions, memories, exports and code, and nothing else
abbrev pub module_bytes : Module → List ℕ
module_bytes m =
    header
    ++ (section_bytes 1 (vector func_type_bytes m.types)
    ++ (section_bytes 3 (vector unsigned (map kind_of m.funcs))
    ++ (section_bytes 5 (vector memory_bytes m.mems)
    ++ (section_bytes 7 (vector export_bytes m.exports)
    ++ section_bytes 10 (vector body_bytes (map body_of m.funcs))))))
