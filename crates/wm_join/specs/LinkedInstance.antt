-- Where linked modules begin: as `Instance` of `wm_ast`, with the segments of the modules in the order of the modules.
use Rattle.std.specs.Prelude.{ℕ, suc, List, [], ◌∷◌, map, reverse, replicate, filter_map}
use Rattle.std.specs.Prelude.{Option, Some, None, option_map, slice_get}
use Rattle.mc_nbt.specs.declared.value.Value.{Value}
use Rattle.wm_ast.specs.declared.module.Elem.{Elem}
use Rattle.wm_ast.specs.declared.module.Limits.{Limits}
use Rattle.wm_ast.specs.declared.module.Module.{Module}
use Rattle.wm_ast.specs.declared.module.Space.TheVariants as spaces
use Rattle.wm_ast.specs.Code.{call}
use Rattle.wm_ast.specs.Instance.{first_value, placed, with_datas, zeros, exported_functions}
use Rattle.wm_ast.specs.Profile.{constant_offset, element_code, entries}
use Rattle.wm_match.specs.declared.library.Binding.{Binding}
use Rattle.wm_match.specs.Program.{Program, modules}
use Rattle.wm_match.specs.Space.{stands_for}
use Rattle.wm_join.specs.Joined.{all_items}
use Rattle.wm_join.specs.LinkedConfiguration.{instruction, Items, empty, more, Config, after_values}
use Rattle.wm_join.specs.LinkedStore.{Store}

-- the data segments of the modules, one after the other
abbrev pub with_all_datas : List Module → List ℕ → List ℕ
with_all_datas [] memory = memory
with_all_datas (m ∷ ms) memory = with_all_datas ms (with_datas m.datas memory)

-- the elements of a table before its segments
abbrev pub empty_elements : Option Limits → List (Option Binding)
empty_elements None = []
empty_elements (Some l) = replicate (entries l) None

-- the first values of the globals of a module
abbrev pub first_globals : Module → List Value
first_globals m = filter_map first_value m.globals

module _ (p : Program) where
  -- Instantiation (4.5.4).

  -- an element of a segment of the module of number k: the function that the index stands for
  abbrev pub placed_function : ℕ → ℕ → Option Binding
  placed_function k f = stands_for p spaces.Func k f

  -- the element segments of the module of number k, one after the other
  abbrev pub with_elements : ℕ → List Elem → List (Option Binding) → List (Option Binding)
  with_elements k [] table = table
  with_elements k (e ∷ es) table =
      with_elements k es (placed (constant_offset (element_code e)) (map (placed_function k) e.funcs) table)

  -- the element segments of the modules from number k on, one after the other
  abbrev pub with_all_elements : ℕ → List Module → List (Option Binding) → List (Option Binding)
  with_all_elements k [] table = table
  with_all_elements k (m ∷ ms) table = with_all_elements (suc k) ms (with_elements k m.elems table)

  -- the store in which the segments are written and the globals are set
  abbrev pub first_store : Store
  first_store = record {
    globals = map first_globals (modules p);
    memory = with_all_datas (modules p) (zeros (slice_get (all_items p (λ k m. m.mems)) 0));
    table = with_all_elements 0 (modules p) (empty_elements (slice_get (all_items p (λ k m. m.tables)) 0));
  }

  -- the call of the main module's start function, where there is one
  abbrev pub start_term : Option ℕ → Items
  start_term None = empty
  start_term (Some f) = more (instruction (call f)) empty

  -- the first configuration of the linked modules
  abbrev pub first_config : Config
  first_config = record { store = first_store; term = start_term p.main.start }

  -- Invocation (4.5.5).

  -- the call of a function of the main module, over arguments of which the first one stands first
  abbrev pub call_config : Store → ℕ → List Value → Config
  call_config s f arguments = record {
    store = s;
    term = after_values (reverse arguments) (more (instruction (call f)) empty);
  }

  -- the call of the main module's function export of this number, where there is one
  abbrev pub export_config : Store → ℕ → List Value → Option Config
  export_config s k arguments =
      option_map (λ f. call_config s f arguments) (slice_get (exported_functions p.main) k)
