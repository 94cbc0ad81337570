-- What stands while a pack instantiates its module: before each of the pieces that do so, and behind the last one.
use Rattle.std.specs.Prelude.{◌≡◌, ◌≤◌, ℕ, zero, suc, ◌-◌, ◌*◌, List, [], length, take, pos, negsuc, Option, Some, None}
use Rattle.std.specs.Prelude.{slice_get}
use Rattle.mc_nbt.specs.Tree.{int}
use Rattle.wm_ast.specs.declared.module.Module.{Module}
use Rattle.wm_ast.specs.Instance.{first_store}
use Rattle.cc_line.specs.Sight.{in_io, in_memory, in_rest}
use Rattle.cc_line.specs.Key.{key_end, key_fail, key_globals, key_next, key_state, key_table}
use Rattle.cc_line.specs.Key.{score_trap, init_piece, id_tree}
use Rattle.cc_line.specs.Place.{score_places}
use Rattle.cc_line.specs.Standing.{Standing}
use Rattle.cc_line.specs.State.{State}
use Rattle.cc_page.specs.Pages.{page_tree}
use Rattle.cc_simulate.specs.Stands.{Entering}
use Rattle.cc_simulate.specs.Stored.{globals_tree, HasPages, Stored}
use Rattle.cc_simulate.specs.Uses.{uses_bytes}
use Rattle.cc_init.specs.Init.{first_pages, global_pieces, globals_of_piece, later_pieces}

module _ (m : Module) where
  -- The first piece has been run, and so many others: the places that are scores stand, and what these have appended of
  -- the first store's globals, and then of its pages.
  pub record Settled (s : State) (k : ℕ) : Type 0 where
    pub wide : score_places ≤ length s.places
    pub standing : Standing (uses_bytes m) s
    pub globals : s.keys in_memory key_globals
        ≡ Some (globals_tree (take (globals_of_piece * k) (first_store m).globals))
    pub memory : HasPages m.mems (take (k - global_pieces m) (first_pages m)) s
    -- the last of these pages stands where it was laid down
    pub table : (i : ℕ) (ms : List ℕ) → k - global_pieces m ≡ suc i → slice_get (first_pages m) i ≡ Some ms
        → s.keys in_rest key_table ≡ Some (page_tree ms)

  -- what the pieces before this one have laid down; nothing stands before the first one
  abbrev pub Laid : ℕ → State → Type 0
  Laid zero s = length s.places ≡ 0
  Laid (suc k) s = Settled s k

  -- This piece of instantiation is next. Nothing has trapped, the pack runs, and its job ends as instantiation does:
  -- with the number 0, and with 4 where it traps.
  pub record Instantiating (s : State) (k : ℕ) : Type 0 where
    pub laid : Laid k s
    pub few : k ≤ later_pieces m
    pub named : s.keys in_rest key_next ≡ Some (id_tree (init_piece k))
    pub trap : s.scores score_trap ≡ Some (pos 0)
    pub state : s.keys in_io key_state ≡ Some (int (pos 1))
    pub ending : s.keys in_rest key_end ≡ Some (int (pos 0))
    pub failing : s.keys in_rest key_fail ≡ Some (int (pos 4))

  -- the start function is called, over no arguments; or without one the job has ended, and no piece is next
  abbrev pub Leaves : Option ℕ → State → Type 0
  Leaves None s = (s.keys in_io key_state ≡ Some (int (pos 0))) × (s.scores score_trap ≡ Some (negsuc 0))
  Leaves (Some f) s = Entering m f [] s

  -- all pieces have been run: the state has what the first store has, and leaves instantiation
  pub record Instantiated (s : State) : Type 0 where
    pub wide : score_places ≤ length s.places
    pub standing : Standing (uses_bytes m) s
    pub stored : Stored m (first_store m) s
    pub leaves : Leaves m.start s
    pub ending : s.keys in_rest key_end ≡ Some (int (pos 0))
    pub failing : s.keys in_rest key_fail ≡ Some (int (pos 4))
