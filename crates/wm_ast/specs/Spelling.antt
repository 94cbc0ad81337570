-- The binary format of modules (5.5): which bytes spell which module.
use Rattle.std.specs.Prelude.{◌≡◌, ℕ, List, [], ◌∷◌, ◌++◌, map, Option, Some, None}
use Rattle.wm_ast.specs.declared.module.Module.{Module}
use Rattle.wm_ast.specs.declared.module.Func.{Func}
use Rattle.wm_ast.specs.declared.module.FuncType.{FuncType}
use Rattle.wm_ast.specs.declared.module.Limits.{Limits}
use Rattle.wm_ast.specs.declared.module.Global.{Global}
use Rattle.wm_ast.specs.declared.module.Export.{Export}
use Rattle.wm_ast.specs.declared.module.Import.{Import}
use Rattle.wm_ast.specs.declared.module.Elem.{Elem}
use Rattle.wm_ast.specs.declared.module.Data.{Data}
use Rattle.wm_ast.specs.Part.{SpellsFuncType, SpellsImport, SpellsTableType, SpellsLimits, SpellsGlobal, SpellsExport}
use Rattle.wm_ast.specs.Part.{SpellsElem, Body, SpellsBody, SpellsData}
use Rattle.wm_ast.specs.Section.{Section, IsRising, IsFramed}
use Rattle.wm_ast.specs.Vector.{SpellsVector, SpellsIndex, SpellsName}

-- what one section holds
pub data Content : Type 0 where
  -- it leaves nothing in the module
  custom_section : Content
  type_section : List FuncType → Content
  import_section : List Import → Content
  -- the index of each function's type
  function_section : List ℕ → Content
  table_section : List Limits → Content
  memory_section : List Limits → Content
  global_section : List Global → Content
  export_section : List Export → Content
  start_section : ℕ → Content
  element_section : List Elem → Content
  code_section : List Body → Content
  data_section : List Data → Content

-- the id of a section (5.5.2)
abbrev pub section_id : Content → ℕ
section_id custom_section = 0
section_id (type_section ts) = 1
section_id (import_section is) = 2
section_id (function_section ks) = 3
section_id (table_section ts) = 4
section_id (memory_section ms) = 5
section_id (global_section gs) = 6
section_id (export_section es) = 7
section_id (start_section f) = 8
section_id (element_section es) = 9
section_id (code_section bs) = 10
section_id (data_section ds) = 11

-- a custom section begins with a name; what follows may be anything (5.5.3)
abbrev pub SpellsCustom : List ℕ → Type 0
SpellsCustom bytes =
    (name : List ℕ) × (front : List ℕ) × (rest : List ℕ) × SpellsName name front × (bytes ≡ front ++ rest)

-- the content of a section, which is used up exactly (5.5.3 to 5.5.14)
abbrev pub SpellsContent : Content → List ℕ → Type 0
SpellsContent custom_section bytes = SpellsCustom bytes
SpellsContent (type_section ts) bytes = SpellsVector SpellsFuncType ts bytes
SpellsContent (import_section is) bytes = SpellsVector SpellsImport is bytes
SpellsContent (function_section ks) bytes = SpellsVector SpellsIndex ks bytes
SpellsContent (table_section ts) bytes = SpellsVector SpellsTableType ts bytes
SpellsContent (memory_section ms) bytes = SpellsVector SpellsLimits ms bytes
SpellsContent (global_section gs) bytes = SpellsVector SpellsGlobal gs bytes
SpellsContent (export_section es) bytes = SpellsVector SpellsExport es bytes
SpellsContent (start_section f) bytes = SpellsIndex f bytes
SpellsContent (element_section es) bytes = SpellsVector SpellsElem es bytes
SpellsContent (code_section bs) bytes = SpellsVector SpellsBody bs bytes
SpellsContent (data_section ds) bytes = SpellsVector SpellsData ds bytes

-- the section has this content's id, and its bytes spell the content
abbrev pub IsSectionOf : Section → Content → Type 0
IsSectionOf s c = (s.id ≡ section_id c) × SpellsContent c s.content

-- as many sections as contents, each of them that of its content
abbrev pub AreSectionsOf : List Section → List Content → Type 0
AreSectionsOf [] [] = Unit {0}
AreSectionsOf (s ∷ ss) (c ∷ cs) = IsSectionOf s c × AreSectionsOf ss cs
AreSectionsOf _ _ = ⊥

-- what the sections of a module hold together
pub record Parts : Type 0 where
  pub types : List FuncType
  pub imports : List Import
  pub kinds : List ℕ
  pub tables : List Limits
  pub memories : List Limits
  pub globals : List Global
  pub exports : List Export
  pub start : Option ℕ
  pub elements : List Elem
  pub bodies : List Body
  pub datas : List Data

-- a missing section is an empty one (5.5.2)
abbrev pub no_parts : Parts
no_parts = record {
  types = [];
  imports = [];
  kinds = [];
  tables = [];
  memories = [];
  globals = [];
  exports = [];
  start = None;
  elements = [];
  bodies = [];
  datas = [];
}

-- the parts with what one more section holds
abbrev pub with_content : Content → Parts → Parts
with_content custom_section p = p
with_content (type_section ts) p = record p { types = ts }
with_content (import_section is) p = record p { imports = is }
with_content (function_section ks) p = record p { kinds = ks }
with_content (table_section ts) p = record p { tables = ts }
with_content (memory_section ms) p = record p { memories = ms }
with_content (global_section gs) p = record p { globals = gs }
with_content (export_section es) p = record p { exports = es }
with_content (start_section f) p = record p { start = Some f }
with_content (element_section es) p = record p { elements = es }
with_content (code_section bs) p = record p { bodies = bs }
with_content (data_section ds) p = record p { datas = ds }

-- what sections hold together, from the first on
abbrev pub parts_of : Parts → List Content → Parts
parts_of p [] = p
parts_of p (c ∷ cs) = parts_of (with_content c p) cs

-- the index of a function's type
abbrev pub kind_of : Func → ℕ
kind_of f = f.kind

-- what the code section has of a function
abbrev pub body_of : Func → Body
body_of f = record { locals = f.locals; body = f.body }

-- The module has these parts. The function section and the code section speak of the same functions, so they have
-- equal counts (5.5.15).
pub record IsMadeOf (m : Module) (p : Parts) : Type 0 where
  pub types : m.types ≡ p.types
  pub imports : m.imports ≡ p.imports
  pub kinds : map kind_of m.funcs ≡ p.kinds
  pub bodies : map body_of m.funcs ≡ p.bodies
  pub tables : m.tables ≡ p.tables
  pub memories : m.mems ≡ p.memories
  pub globals : m.globals ≡ p.globals
  pub exports : m.exports ≡ p.exports
  pub start : m.start ≡ p.start
  pub elements : m.elems ≡ p.elements
  pub datas : m.datas ≡ p.datas

-- The bytes spell the module (5.5.15): a header, and sections in order that hold its parts.
pub record Spells (bytes : List ℕ) (m : Module) : Type 0 where
  pub sections : List Section
  pub contents : List Content
  pub framed : IsFramed sections bytes
  pub rising : IsRising 0 sections
  pub hold : AreSectionsOf sections contents
  pub made : IsMadeOf m (parts_of no_parts contents)
