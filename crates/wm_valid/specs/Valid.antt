-- Valid modules: section 3.4.10 of the WebAssembly Core Specification, edition 1.0. There are no imports, so the
-- module's own lists are its index spaces.
use Rattle.std.specs.Prelude.{◌≡◌, ◌≢◌, ℕ, ◌<◌, ◌≤◌, [], length, All, Option, Some, None, slice_get}
use Rattle.wm_ast.specs.declared.item.Item.{Item}
use Rattle.wm_ast.specs.declared.item.Item.TheVariants.{Types, Imports, Functions, Tables, Memories, Globals}
use Rattle.wm_ast.specs.declared.item.Item.TheVariants.{Elements, Datas, Start, Exports}
use Rattle.wm_ast.specs.declared.module.ValType.{ValType}
use Rattle.wm_ast.specs.declared.module.ValType.TheVariants.{I32}
use Rattle.wm_ast.specs.declared.module.FuncType.{FuncType}
use Rattle.wm_ast.specs.declared.module.Func.{Func}
use Rattle.wm_ast.specs.declared.module.Limits.{Limits}
use Rattle.wm_ast.specs.declared.module.Global.{Global}
use Rattle.wm_ast.specs.declared.module.Space.{Space}
use Rattle.wm_ast.specs.declared.module.Space.TheVariants as spaces
use Rattle.wm_ast.specs.declared.module.Export.{Export}
use Rattle.wm_ast.specs.declared.module.Elem.{Elem}
use Rattle.wm_ast.specs.declared.module.Data.{Data}
use Rattle.wm_ast.specs.declared.module.Module.{Module}
use Rattle.wm_ast.specs.Code.{Op, const, Code, nil, cons}
use Rattle.wm_ast.specs.ItemIndex.{ItemIndex}
use Rattle.wm_ast.specs.View.{code_of}
use Rattle.wm_ast.specs.Types.{const_type}
use Rattle.wm_valid.specs.Typing.{AllTyped}

-- a function type has at most one result (3.2.2)
abbrev pub IsValidType : FuncType → Type 0
IsValidType t = length t.results ≤ 1

-- the index of a function's type names a type (3.4.1)
abbrev pub NamesType : Module → Func → Type 0
NamesType m f = f.kind < length m.types

-- a greatest size, where there is one, isn't below the least and not above so many (3.2.1)
abbrev pub IsValidMost : ℕ → ℕ → Option ℕ → Type 0
IsValidMost range least None = Unit {0}
IsValidMost range least (Some most) = (least ≤ most) × (most ≤ range)

-- the sizes lie in a range (3.2.1)
abbrev pub AreValidLimits : ℕ → Limits → Type 0
AreValidLimits range l = (l.min ≤ range) × IsValidMost range l.min l.max

-- A table (3.2.3). There is at most one, so only the first of two is valid (3.4.10).
abbrev pub IsValidTable : ℕ → Limits → Type 0
IsValidTable index l = (index ≡ 0) × AreValidLimits 0xFFFF_FFFF l

-- A memory, in pages (3.2.4). There is at most one, so only the first of two is valid (3.4.10).
abbrev pub IsValidMemory : ℕ → Limits → Type 0
IsValidMemory index l = (index ≡ 0) × AreValidLimits 65536 l

-- a constant of this type (3.3.1)
abbrev pub IsConstant : ValType → Op → Type 0
IsConstant t (const v) = const_type v ≡ t
IsConstant t _ = ⊥

-- An expression that is exactly one constant of this type (3.3.7). No `global.get` is constant, since no global is
-- imported.
abbrev pub IsConstantCode : ValType → Code → Type 0
IsConstantCode t nil = ⊥
IsConstantCode t (cons i nil) = IsConstant t i
IsConstantCode t (cons i (cons j is)) = ⊥

-- a global (3.4.4)
abbrev pub IsValidGlobal : Global → Type 0
IsValidGlobal g = IsConstantCode g.ty (code_of g.init)

-- an element segment (3.4.5)
pub record IsValidElement (m : Module) (e : Elem) : Type 0 where
  pub table : e.table < length m.tables
  pub offset : IsConstantCode I32 (code_of e.offset)
  pub functions : All (λ (f : ℕ). f < length m.funcs) e.funcs

-- a data segment (3.4.6)
pub record IsValidData (m : Module) (d : Data) : Type 0 where
  pub memory : d.memory < length m.mems
  pub offset : IsConstantCode I32 (code_of d.offset)

-- a function that takes nothing and gives nothing
pub record IsPlain (m : Module) (f : Func) : Type 0 where
  pub type : FuncType
  pub named : slice_get m.types f.kind ≡ Some type
  pub params : type.params ≡ []
  pub results : type.results ≡ []

-- the start function (3.4.7)
pub record IsValidStart (m : Module) (index : ℕ) : Type 0 where
  pub function : Func
  pub there : slice_get m.funcs index ≡ Some function
  pub plain : IsPlain m function

-- the index names something (3.1.1)
abbrev pub IsThere : Module → Space → ℕ → Type 0
IsThere m spaces.Func n = n < length m.funcs
IsThere m spaces.Table n = n < length m.tables
IsThere m spaces.Memory n = n < length m.mems
IsThere m spaces.Global n = n < length m.globals

-- An export (3.4.8). Names differ, so of two with one name only the first is valid (3.4.10).
pub record IsValidExport (m : Module) (index : ℕ) (e : Export) : Type 0 where
  pub there : IsThere m e.space e.index
  pub new : (k : ℕ) (earlier : Export)
      → k < index → slice_get m.exports k ≡ Some earlier → earlier.name ≢ e.name

-- the item of this kind and index is valid, where there is one
abbrev pub IsValid : Module → Item → ℕ → Type 0
IsValid m Types n = (t : FuncType) → slice_get m.types n ≡ Some t → IsValidType t
IsValid m Imports n = Unit {0}
IsValid m Functions n = (f : Func) → slice_get m.funcs n ≡ Some f → NamesType m f
IsValid m Tables n = (l : Limits) → slice_get m.tables n ≡ Some l → IsValidTable n l
IsValid m Memories n = (l : Limits) → slice_get m.mems n ≡ Some l → IsValidMemory n l
IsValid m Globals n = (g : Global) → slice_get m.globals n ≡ Some g → IsValidGlobal g
IsValid m Elements n = (e : Elem) → slice_get m.elems n ≡ Some e → IsValidElement m e
IsValid m Datas n = (d : Data) → slice_get m.datas n ≡ Some d → IsValidData m d
-- the start function is the only item of its kind
IsValid m Start n = (f : ℕ) → n ≡ 0 → m.start ≡ Some f → IsValidStart m f
IsValid m Exports n = (e : Export) → slice_get m.exports n ≡ Some e → IsValidExport m n e

-- the order in which kinds of items are looked at
abbrev pub rank : Item → ℕ
rank Types = 0
rank Imports = 1
rank Functions = 2
rank Tables = 3
rank Memories = 4
rank Globals = 5
rank Elements = 6
rank Datas = 7
rank Start = 8
rank Exports = 9

-- the first item that isn't valid
pub record IsFirstInvalid (m : Module) (p : ItemIndex) : Type 0 where
  pub invalid : ¬ IsValid m p.item p.index
  pub kinds_before : (kind : Item) (n : ℕ) → rank kind < rank p.item → IsValid m kind n
  pub before : (n : ℕ) → n < p.index → IsValid m p.item n

-- each item is valid
abbrev pub AllItemsValid : Module → Type 0
AllItemsValid m = (kind : Item) (n : ℕ) → IsValid m kind n

-- a module is valid where its items are and each function has a typing (3.4.10)
pub record Valid (m : Module) : Type 0 where
  pub items : AllItemsValid m
  pub bodies : AllTyped m
