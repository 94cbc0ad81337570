-- What stands in the sections of a module: types, and the parts of a module (5.3, 5.5).
use Rattle.std.specs.Prelude.{◌≡◌, ℕ, ◌+◌, ◌^◌, ◌<◌, List, [], ◌∷◌, ◌++◌, length, Option, Some, None, Bool, true, false}
use Rattle.wm_ast.specs.declared.instruction.Instr.{Instr}
use Rattle.wm_ast.specs.declared.module.ValType.{ValType}
use Rattle.wm_ast.specs.declared.module.FuncType.{FuncType}
use Rattle.wm_ast.specs.declared.module.Limits.{Limits}
use Rattle.wm_ast.specs.declared.module.Run.{Run}
use Rattle.wm_ast.specs.declared.module.Global.{Global}
use Rattle.wm_ast.specs.declared.module.Space.{Space}
use Rattle.wm_ast.specs.declared.module.Space.TheVariants as spaces
use Rattle.wm_ast.specs.declared.module.Export.{Export}
use Rattle.wm_ast.specs.declared.module.Imported.{Imported}
use Rattle.wm_ast.specs.declared.module.Imported.TheVariants as imported
use Rattle.wm_ast.specs.declared.module.Import.{Import}
use Rattle.wm_ast.specs.declared.module.Elem.{Elem}
use Rattle.wm_ast.specs.declared.module.Data.{Data}
use Rattle.wm_ast.specs.Number.{IsUnsigned}
use Rattle.wm_ast.specs.View.{code_of}
use Rattle.wm_ast.specs.Instruction.{type_byte, SpellsExpr}
use Rattle.wm_ast.specs.Vector.{SpellsVector, SpellsIndex, SpellsBytes, SpellsName}

-- a value type (5.3.1)
abbrev pub SpellsValType : ValType → List ℕ → Type 0
SpellsValType t bytes = bytes ≡ type_byte t ∷ []

-- a function type (5.3.3)
abbrev pub SpellsFuncType : FuncType → List ℕ → Type 0
SpellsFuncType t bytes =
    (params : List ℕ) × (results : List ℕ) × SpellsVector SpellsValType t.params params
    × SpellsVector SpellsValType t.results results × (bytes ≡ 0x60 ∷ (params ++ results))

-- the least size, and the greatest if there is one (5.3.4)
abbrev pub SpellsSizes : ℕ → Option ℕ → List ℕ → Type 0
SpellsSizes least None bytes = (number : List ℕ) × IsUnsigned 32 number least × (bytes ≡ 0x00 ∷ number)
SpellsSizes least (Some most) bytes =
    (first : List ℕ) × (second : List ℕ) × IsUnsigned 32 first least × IsUnsigned 32 second most
    × (bytes ≡ 0x01 ∷ (first ++ second))

-- limits, and with them a memory type (5.3.4, 5.3.5)
abbrev pub SpellsLimits : Limits → List ℕ → Type 0
SpellsLimits l bytes = SpellsSizes l.min l.max bytes

-- a table type: the type of its elements and its limits (5.3.6)
abbrev pub SpellsTableType : Limits → List ℕ → Type 0
SpellsTableType l bytes = (limits : List ℕ) × SpellsLimits l limits × (bytes ≡ 0x70 ∷ limits)

-- whether a global may change (5.3.7)
abbrev pub mutable_byte : Bool → ℕ
mutable_byte false = 0x00
mutable_byte true = 0x01

-- a global type (5.3.7)
abbrev pub SpellsGlobalType : ValType → Bool → List ℕ → Type 0
SpellsGlobalType t is_mutable bytes = bytes ≡ type_byte t ∷ mutable_byte is_mutable ∷ []

-- what is imported (5.5.5)
abbrev pub SpellsImported : Imported → List ℕ → Type 0
SpellsImported (imported.Func n) bytes = (index : List ℕ) × SpellsIndex n index × (bytes ≡ 0x00 ∷ index)
SpellsImported (imported.Table l) bytes = (type : List ℕ) × SpellsTableType l type × (bytes ≡ 0x01 ∷ type)
SpellsImported (imported.Memory l) bytes = (type : List ℕ) × SpellsLimits l type × (bytes ≡ 0x02 ∷ type)
SpellsImported (imported.Global t is_mutable) bytes =
    (type : List ℕ) × SpellsGlobalType t is_mutable type × (bytes ≡ 0x03 ∷ type)

-- an import: two names, and what it is to be (5.5.5)
abbrev pub SpellsImport : Import → List ℕ → Type 0
SpellsImport i bytes =
    (module' : List ℕ) × (name : List ℕ) × (what : List ℕ) × SpellsName i.module module' × SpellsName i.name name
    × SpellsImported i.what what × (bytes ≡ module' ++ (name ++ what))

-- a global: its type and the expression of its first value (5.5.9)
abbrev pub SpellsGlobal : Global → List ℕ → Type 0
SpellsGlobal g bytes =
    (type : List ℕ) × (init : List ℕ) × SpellsGlobalType g.ty g.mutable type × SpellsExpr (code_of g.init) init
    × (bytes ≡ type ++ init)

-- what an export's index counts (5.5.10)
abbrev pub space_byte : Space → ℕ
space_byte spaces.Func = 0x00
space_byte spaces.Table = 0x01
space_byte spaces.Memory = 0x02
space_byte spaces.Global = 0x03

-- an export (5.5.10)
abbrev pub SpellsExport : Export → List ℕ → Type 0
SpellsExport e bytes =
    (name : List ℕ) × (index : List ℕ) × SpellsName e.name name × SpellsIndex e.index index
    × (bytes ≡ name ++ space_byte e.space ∷ index)

-- an element segment: a table, an offset and functions (5.5.12)
abbrev pub SpellsElem : Elem → List ℕ → Type 0
SpellsElem e bytes =
    (table : List ℕ) × (offset : List ℕ) × (funcs : List ℕ) × SpellsIndex e.table table
    × SpellsExpr (code_of e.offset) offset × SpellsVector SpellsIndex e.funcs funcs
    × (bytes ≡ table ++ (offset ++ funcs))

-- a data segment: a memory, an offset and bytes (5.5.14)
abbrev pub SpellsData : Data → List ℕ → Type 0
SpellsData d bytes =
    (memory : List ℕ) × (offset : List ℕ) × (items : List ℕ) × SpellsIndex d.memory memory
    × SpellsExpr (code_of d.offset) offset × SpellsBytes d.bytes items × (bytes ≡ memory ++ (offset ++ items))

-- so many locals of one type (5.5.13)
abbrev pub SpellsRun : Run → List ℕ → Type 0
SpellsRun r bytes = (count : List ℕ) × IsUnsigned 32 count r.count × (bytes ≡ count ++ type_byte r.ty ∷ [])

-- what the code section has of a function: its locals and its body
pub record Body : Type 0 where
  pub locals : List Run
  pub body : List Instr

-- how many locals there are
abbrev pub locals_count : List Run → ℕ
locals_count [] = 0
locals_count (r ∷ rs) = r.count + locals_count rs

-- the locals of a function, fewer than 2 ^ 32, and its body (5.5.13)
abbrev pub SpellsFunction : Body → List ℕ → Type 0
SpellsFunction b bytes =
    (locals : List ℕ) × (body : List ℕ) × SpellsVector SpellsRun b.locals locals × (locals_count b.locals < 2 ^ 32)
    × SpellsExpr (code_of b.body) body × (bytes ≡ locals ++ body)

-- a function with the number of its bytes (5.5.13)
abbrev pub SpellsBody : Body → List ℕ → Type 0
SpellsBody b bytes =
    (size : List ℕ) × (function : List ℕ) × IsUnsigned 32 size (length function) × SpellsFunction b function
    × (bytes ≡ size ++ function)
