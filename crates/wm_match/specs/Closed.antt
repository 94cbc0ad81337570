-- Modules each of whose indices names something, in the spaces of types, functions, tables, memories and globals. Locals
-- and labels aren't looked at.
use Rattle.std.specs.Prelude.{◌≡◌, ◌≢◌, ℕ, ◌≤◌, length, AllPairs, Bool, false, nat_le, ◌||◌, Option, Some, None}
use Rattle.std.specs.List.{list_any}
use Rattle.wm_ast.specs.declared.module.Data.{Data}
use Rattle.wm_ast.specs.declared.module.Elem.{Elem}
use Rattle.wm_ast.specs.declared.module.Export.{Export}
use Rattle.wm_ast.specs.declared.module.Func.{Func}
use Rattle.wm_ast.specs.declared.module.Global.{Global}
use Rattle.wm_ast.specs.declared.module.Import.{Import}
use Rattle.wm_ast.specs.declared.module.Imported.{Imported}
use Rattle.wm_ast.specs.declared.module.Imported.TheVariants as imported
use Rattle.wm_ast.specs.declared.module.Module.{Module}
use Rattle.wm_ast.specs.declared.module.Space.{Space}
use Rattle.wm_ast.specs.declared.module.Space.TheVariants as spaces
use Rattle.wm_ast.specs.Code.{Op, call, call_indirect, global_get, global_set, load, store, memory_size, memory_grow}
use Rattle.wm_ast.specs.Code.{memory_copy, memory_fill, Code}
use Rattle.wm_ast.specs.Profile.{NoItem, all_ops, global_code, element_code, data_code, function_code}
use Rattle.wm_match.specs.declared.sizes.Sizes.{Sizes}
use Rattle.wm_match.specs.Space.{space_size}

-- how many indices each space of the module has
abbrev pub sizes_of : Module → Sizes
sizes_of m = record {
  types = length m.types;
  functions = space_size spaces.Func m;
  tables = space_size spaces.Table m;
  memories = space_size spaces.Memory m;
  globals = space_size spaces.Global m;
}

-- the size of a space
abbrev pub size_in : Sizes → Space → ℕ
size_in s spaces.Func = s.functions
size_in s spaces.Table = s.tables
size_in s spaces.Memory = s.memories
size_in s spaces.Global = s.globals

-- how many indices the spaces have; an index names nothing where a space has no more than so many
module _ (s : Sizes) where
  -- an index of the instruction names nothing, or what it uses isn't there
  abbrev pub is_open_op : Op → Bool
  is_open_op (call f) = nat_le s.functions f
  is_open_op (call_indirect t) = nat_le s.types t || nat_le s.tables 0
  is_open_op (global_get x) = nat_le s.globals x
  is_open_op (global_set x) = nat_le s.globals x
  is_open_op (load op align offset) = nat_le s.memories 0
  is_open_op (store op align offset) = nat_le s.memories 0
  is_open_op memory_size = nat_le s.memories 0
  is_open_op memory_grow = nat_le s.memories 0
  is_open_op memory_copy = nat_le s.memories 0
  is_open_op memory_fill = nat_le s.memories 0
  is_open_op _ = false

  -- so it is of an instruction of the expression, at any depth
  abbrev pub is_open_code : Code → Bool
  is_open_code c = list_any is_open_op (all_ops c)

  -- the type that is imported isn't there
  abbrev pub is_open_imported : Imported → Bool
  is_open_imported (imported.Func t) = nat_le s.types t
  is_open_imported _ = false

  -- an index of the import names nothing
  abbrev pub is_open_import : Import → Bool
  is_open_import i = is_open_imported i.what

  -- an index of the function, or of its body, names nothing
  abbrev pub is_open_function : Func → Bool
  is_open_function f = nat_le s.types f.kind || is_open_code (function_code f)

  -- an index of the global's expression names nothing
  abbrev pub is_open_global : Global → Bool
  is_open_global g = is_open_code (global_code g)

  -- an index of the export names nothing
  abbrev pub is_open_export : Export → Bool
  is_open_export e = nat_le (size_in s e.space) e.index

  -- an index of the element segment names nothing
  abbrev pub is_open_element : Elem → Bool
  is_open_element e =
      nat_le s.tables e.table || is_open_code (element_code e) || list_any (nat_le s.functions) e.funcs

  -- an index of the data segment names nothing
  abbrev pub is_open_data : Data → Bool
  is_open_data d = nat_le s.memories d.memory || is_open_code (data_code d)

  -- there is a start function, and its index names nothing
  abbrev pub is_open_start : Option ℕ → Bool
  is_open_start None = false
  is_open_start (Some f) = nat_le s.functions f

-- two exports have different names
abbrev pub HaveOtherNames : Export → Export → Type 0
HaveOtherNames e other = e.name ≢ other.name

-- Each index names something, there is at most one table and one memory, imported ones counted, and the names of exports
-- differ.
pub record Closed (m : Module) : Type 0 where
  pub imports : NoItem (is_open_import (sizes_of m)) m.imports
  pub functions : NoItem (is_open_function (sizes_of m)) m.funcs
  pub globals : NoItem (is_open_global (sizes_of m)) m.globals
  pub exports : NoItem (is_open_export (sizes_of m)) m.exports
  pub start : is_open_start (sizes_of m) m.start ≡ false
  pub elements : NoItem (is_open_element (sizes_of m)) m.elems
  pub datas : NoItem (is_open_data (sizes_of m)) m.datas
  pub one_table : space_size spaces.Table m ≤ 1
  pub one_memory : space_size spaces.Memory m ≤ 1
  pub names : AllPairs HaveOtherNames m.exports
