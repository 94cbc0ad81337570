-- What the code makes of the parts of one module, by the numbers of its indices.
use Rattle.std.specs.Prelude.{ℕ, List, [], ◌++◌, map, take, None}
use Rattle.wm_ast.specs.declared.instruction.Instr.{Instr}
use Rattle.wm_ast.specs.declared.module.Data.{Data}
use Rattle.wm_ast.specs.declared.module.Elem.{Elem}
use Rattle.wm_ast.specs.declared.module.Export.{Export}
use Rattle.wm_ast.specs.declared.module.Func.{Func}
use Rattle.wm_ast.specs.declared.module.Global.{Global}
use Rattle.wm_ast.specs.declared.module.Module.{Module}
use Rattle.wm_ast.specs.View.{code_of, instrs_of}
use Rattle.wm_match.specs.Program.{Program, modules}
use Rattle.wm_join.specs.declared.numbers.Numbers.{Numbers}
use Rattle.wm_join.specs.Joined.{joined_function, joined_global, joined_element, joined_data}
use Rattle.wm_join.specs.Numbering.{joined_lists, numbered}
use Rattle.wm_join.specs.Renumbered.{renumbered, renumbered_function}
use Rattle.wm_join.specs.steps.Numbers.{number_of, space_number, renumbering_of}

module _ (x : Numbers) where
  -- an expression
  abbrev pub code_with : List Instr → List Instr
  code_with is = instrs_of (renumbered (renumbering_of x) (code_of is))

  -- a function
  abbrev pub function_with : Func → Func
  function_with f = renumbered_function (renumbering_of x) f

  -- a global
  abbrev pub global_with : Global → Global
  global_with g = record g { init = code_with g.init }

  -- an element segment
  abbrev pub element_with : Elem → Elem
  element_with e = record {
    table = number_of x.tables e.table;
    offset = code_with e.offset;
    funcs = map (number_of x.functions) e.funcs;
  }

  -- a data segment
  abbrev pub data_with : Data → Data
  data_with d = record d { memory = number_of x.memories d.memory; offset = code_with d.offset }

  -- an export
  abbrev pub export_with : Export → Export
  export_with e = record e { index = space_number x e.space e.index }

  -- what is joined, with a module's own items behind it
  abbrev pub with_module : Module → Module → Module
  with_module m j = record j {
    types = j.types ++ m.types;
    funcs = j.funcs ++ map function_with m.funcs;
    tables = j.tables ++ m.tables;
    mems = j.mems ++ m.mems;
    globals = j.globals ++ map global_with m.globals;
    elems = j.elems ++ map element_with m.elems;
    datas = j.datas ++ map data_with m.datas;
  }

-- the items that the modules before number k have, one module after the other
abbrev pub items_before : Program → ℕ → {A : Type 0} → (ℕ → Module → List A) → List A
items_before p k items = joined_lists (numbered items 0 (take k (modules p)))

-- the modules before number k, joined without exports and without a start function
abbrev pub joined_before : Program → ℕ → Module
joined_before p k = record {
  types = items_before p k (λ j m. m.types);
  funcs = items_before p k (λ j m. map (joined_function p j) m.funcs);
  tables = items_before p k (λ j m. m.tables);
  mems = items_before p k (λ j m. m.mems);
  globals = items_before p k (λ j m. map (joined_global p j) m.globals);
  exports = [];
  start = None;
  elems = items_before p k (λ j m. map (joined_element p j) m.elems);
  datas = items_before p k (λ j m. map (joined_data p j) m.datas);
  imports = [];
}

-- a module without any item
abbrev pub empty_module : Module
empty_module = record {
  types = [];
  funcs = [];
  tables = [];
  mems = [];
  globals = [];
  exports = [];
  start = None;
  elems = [];
  datas = [];
  imports = [];
}
