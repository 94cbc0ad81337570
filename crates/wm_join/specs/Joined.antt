-- Linked modules as one module without imports: each list has the items of the modules one after the other, and each
-- index names in it the item for which it stood.
use Rattle.std.specs.Prelude.{ℕ, List, [], length, map, Option, Some, None, option_map}
use Rattle.wm_ast.specs.declared.instruction.Instr.{Instr}
use Rattle.wm_ast.specs.declared.module.Data.{Data}
use Rattle.wm_ast.specs.declared.module.Elem.{Elem}
use Rattle.wm_ast.specs.declared.module.Export.{Export}
use Rattle.wm_ast.specs.declared.module.Func.{Func}
use Rattle.wm_ast.specs.declared.module.Global.{Global}
use Rattle.wm_ast.specs.declared.module.Module.{Module}
use Rattle.wm_ast.specs.declared.module.Space.{Space}
use Rattle.wm_ast.specs.declared.module.Space.TheVariants as spaces
use Rattle.wm_ast.specs.View.{code_of, instrs_of}
use Rattle.wm_match.specs.declared.library.Binding.{Binding}
use Rattle.wm_match.specs.Program.{Program, modules}
use Rattle.wm_match.specs.Space.{own_count, stands_for}
use Rattle.wm_join.specs.Numbering.{joined_lists, number, numbered, total}
use Rattle.wm_join.specs.Renumbered.{Renumbering, renumbered, renumbered_function}

module _ (p : Program) where
  -- the number of an item that a module defines
  abbrev pub item_number : Space → Binding → ℕ
  item_number space b = number (map (own_count space) (modules p)) b.module b.index

  -- the number of what an index stands for; one that stands for nothing gets a number that names nothing
  abbrev pub place_number : Space → Option Binding → ℕ
  place_number space None = total (map (own_count space) (modules p))
  place_number space (Some b) = item_number space b

  -- an index of the module of number k; no global is imported
  abbrev pub index_number : Space → ℕ → ℕ → ℕ
  index_number spaces.Global k n = number (map (own_count spaces.Global) (modules p)) k n
  index_number space k n = place_number space (stands_for p space k n)

  -- how many types the module has
  abbrev pub type_count : Module → ℕ
  type_count m = length m.types

  -- an index of a type; no type is imported
  abbrev pub type_number : ℕ → ℕ → ℕ
  type_number k n = number (map type_count (modules p)) k n

  -- the indices in instructions of the module of number k
  abbrev pub renumbering : ℕ → Renumbering
  renumbering k = record {
    type = type_number k;
    function = index_number spaces.Func k;
    global = index_number spaces.Global k;
  }

  -- an expression of the module of number k
  abbrev pub joined_code : ℕ → List Instr → List Instr
  joined_code k is = instrs_of (renumbered (renumbering k) (code_of is))

  -- a function of the module of number k
  abbrev pub joined_function : ℕ → Func → Func
  joined_function k f = renumbered_function (renumbering k) f

  -- a global of the module of number k
  abbrev pub joined_global : ℕ → Global → Global
  joined_global k g = record g { init = joined_code k g.init }

  -- an element segment of the module of number k
  abbrev pub joined_element : ℕ → Elem → Elem
  joined_element k e = record {
    table = index_number spaces.Table k e.table;
    offset = joined_code k e.offset;
    funcs = map (index_number spaces.Func k) e.funcs;
  }

  -- a data segment of the module of number k
  abbrev pub joined_data : ℕ → Data → Data
  joined_data k d = record d { memory = index_number spaces.Memory k d.memory; offset = joined_code k d.offset }

  -- an export of the module of number k
  abbrev pub joined_export : ℕ → Export → Export
  joined_export k e = record e { index = index_number e.space k e.index }

  -- the items that the modules have, one module after the other
  abbrev pub all_items : {A : Type 0} → (ℕ → Module → List A) → List A
  all_items items = joined_lists (numbered items 0 (modules p))

  -- the number of the main module
  abbrev pub main_number : ℕ
  main_number = length p.libraries

  -- the joined module; its exports and its start function are those of the main module
  abbrev pub joined : Module
  joined = record {
    types = all_items (λ k m. m.types);
    funcs = all_items (λ k m. map (joined_function k) m.funcs);
    tables = all_items (λ k m. m.tables);
    mems = all_items (λ k m. m.mems);
    globals = all_items (λ k m. map (joined_global k) m.globals);
    exports = map (joined_export main_number) p.main.exports;
    start = option_map (index_number spaces.Func main_number) p.main.start;
    elems = all_items (λ k m. map (joined_element k) m.elems);
    datas = all_items (λ k m. map (joined_data k) m.datas);
    imports = [];
  }
