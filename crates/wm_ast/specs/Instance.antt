-- Instantiation and invocation (4.5.4, 4.5.5), for a module without imports whose globals and offsets are constants and
-- whose segments fit.
use Rattle.std.specs.Prelude.{ℕ, ◌*◌, Bool, true, false, List, [], ◌∷◌, map, reverse, replicate, filter, filter_map}
use Rattle.std.specs.Prelude.{Option, Some, None, option_map, slice_get}
use Rattle.mc_nbt.specs.declared.value.Value.{Value}
use Rattle.wm_ast.specs.declared.module.Data.{Data}
use Rattle.wm_ast.specs.declared.module.Elem.{Elem}
use Rattle.wm_ast.specs.declared.module.Export.{Export}
use Rattle.wm_ast.specs.declared.module.Global.{Global}
use Rattle.wm_ast.specs.declared.module.Limits.{Limits}
use Rattle.wm_ast.specs.declared.module.Module.{Module}
use Rattle.wm_ast.specs.declared.module.Space.{Space}
use Rattle.wm_ast.specs.declared.module.Space.TheVariants as spaces
use Rattle.wm_ast.specs.Code.{call, Code, nil, cons, constant_of}
use Rattle.wm_ast.specs.Configuration.{instruction, Items, empty, more, Config, after_values}
use Rattle.wm_ast.specs.Profile.{constant_offset, data_code, element_code, entries, global_code, pages}
use Rattle.wm_ast.specs.Store.{Store, overwritten, page_size}

-- Instantiation (4.5.4).

-- the value of an expression that is one constant
abbrev pub constant_value : Code → Option Value
constant_value (cons i nil) = constant_of i
constant_value _ = None

-- the first value of a global
abbrev pub first_value : Global → Option Value
first_value g = constant_value (global_code g)

-- a segment, where its offset is a constant
abbrev pub placed : {A : Type 0} → Option ℕ → List A → List A → List A
placed None items all = all
placed (Some offset) items all = overwritten all offset items

-- the data segments, one after the other
abbrev pub with_datas : List Data → List ℕ → List ℕ
with_datas [] memory = memory
with_datas (d ∷ ds) memory = with_datas ds (placed (constant_offset (data_code d)) d.bytes memory)

-- the element segments, one after the other
abbrev pub with_elements : List Elem → List (Option ℕ) → List (Option ℕ)
with_elements [] table = table
with_elements (e ∷ es) table =
    with_elements es (placed (constant_offset (element_code e)) (map (λ f. Some f) e.funcs) table)

-- the bytes of a memory before its segments
abbrev pub zeros : Option Limits → List ℕ
zeros None = []
zeros (Some l) = replicate (page_size * pages l) 0

-- the elements of a table before its segments
abbrev pub empty_elements : Option Limits → List (Option ℕ)
empty_elements None = []
empty_elements (Some l) = replicate (entries l) None

-- the store in which the segments are written and the globals are set
abbrev pub first_store : Module → Store
first_store m = record {
  globals = filter_map first_value m.globals;
  memory = with_datas m.datas (zeros (slice_get m.mems 0));
  table = with_elements m.elems (empty_elements (slice_get m.tables 0));
}

-- the call of the start function, where there is one
abbrev pub start_term : Option ℕ → Items
start_term None = empty
start_term (Some f) = more (instruction (call f)) empty

-- the first configuration of a program
abbrev pub first_config : Module → Config
first_config m = record { store = first_store m; term = start_term m.start }

-- Invocation (4.5.5).

-- the call of a function, over arguments of which the first one stands first
abbrev pub call_config : Store → ℕ → List Value → Config
call_config s f arguments = record {
  store = s;
  term = after_values (reverse arguments) (more (instruction (call f)) empty);
}

abbrev pub is_function : Space → Bool
is_function spaces.Func = true
is_function _ = false

-- the functions among the exports, by their indices
abbrev pub exported_index : Export → ℕ
exported_index e = e.index

abbrev pub exported_functions : Module → List ℕ
exported_functions m = map exported_index (filter (λ e. is_function e.space) m.exports)

-- the call of the function export of this number, where there is one
abbrev pub export_config : Module → Store → ℕ → List Value → Option Config
export_config m s k arguments = option_map (λ f. call_config s f arguments) (slice_get (exported_functions m) k)
