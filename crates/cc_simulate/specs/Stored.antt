-- What a state has of a store (4.2.3): its globals and its memory in the public storage, what routines keep beside the
-- memory, and the table of the module, which no instruction changes.
use Rattle.std.specs.Prelude.{◌≡◌, ℕ, List, [], ◌∷◌, ◌++◌, map, replicate, Some}
use Rattle.mc_nbt.specs.Tree.{Tree, list, no_items, list_of}
use Rattle.mc_nbt.specs.declared.value.Value.{Value}
use Rattle.wm_ast.specs.declared.module.Limits.{Limits}
use Rattle.wm_ast.specs.declared.module.Module.{Module}
use Rattle.wm_ast.specs.Instance.{first_store}
use Rattle.wm_ast.specs.Store.{Store}
use Rattle.cc_line.specs.Sight.{in_memory}
use Rattle.cc_line.specs.Key.{key_globals, key_memory}
use Rattle.cc_line.specs.Routine.{value_ints}
use Rattle.cc_line.specs.State.{State, ints}
use Rattle.cc_page.specs.Pages.{zero_page, pages_bytes}
use Rattle.cc_mem.specs.Standing.{HasMemory}

-- a global as the list of its ints, and all of them
abbrev pub global_tree : Value → Tree
global_tree v = ints (value_ints v)

abbrev pub globals_tree : List Value → Tree
globals_tree vs = list_of (map global_tree vs)

-- the state has these pages; without a memory it has the empty list
abbrev pub HasPages : List Limits → List (List ℕ) → State → Type 0
HasPages [] ps s = (ps ≡ []) × (s.keys in_memory key_memory ≡ Some (list no_items))
HasPages (l ∷ ls) ps s = HasMemory ps s

pub record Stored (m : Module) (st : Store) (s : State) : Type 0 where
  pub globals : s.keys in_memory key_globals ≡ Some (globals_tree st.globals)
  pub pages : List (List ℕ)
  pub bytes : st.memory ≡ pages_bytes pages
  pub memory : HasPages m.mems pages s
  pub table : st.table ≡ (first_store m).table

-- the same, but that so many pages of zeros with which the memory ends are still to be appended
pub record StoredBut (m : Module) (missing : ℕ) (st : Store) (s : State) : Type 0 where
  pub globals : s.keys in_memory key_globals ≡ Some (globals_tree st.globals)
  pub pages : List (List ℕ)
  pub bytes : st.memory ≡ pages_bytes (pages ++ replicate missing zero_page)
  pub memory : HasPages m.mems pages s
  pub table : st.table ≡ (first_store m).table
