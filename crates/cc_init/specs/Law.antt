-- The law of instantiation, which the contract of a public function cites.
use Rattle.std.specs.Prelude.{◌≡◌, ◌≤◌, ◌<◌, ℕ, zero, suc, ◌+◌, slice_get}
use Rattle.wm_ast.specs.declared.module.Module.{Module}
use Rattle.wm_flat.specs.FlatTyping.{least_pages}
use Rattle.wm_flat.specs.Program.{IsProgram}
use Rattle.cc_line.specs.Item.{run_items, ItemsReady}
use Rattle.cc_line.specs.State.{State}
use Rattle.cc_pieces.specs.Law.{IsLight}
use Rattle.cc_init.specs.Init.{init_items, later_pieces}
use Rattle.cc_init.specs.Laid.{Instantiated, Instantiating}

-- the state behind a piece
abbrev pub ran : Module → ℕ → State → State
ran m k s = (run_items (init_items m k) s).state

-- the piece finds what it needs, and leads to the next one; the last one leads out of instantiation
pub record LeadsOn (m : Module) (k : ℕ) (s : State) : Type 0 where
  pub ready : ItemsReady (init_items m k) s
  pub on : k < later_pieces m → Instantiating m (ran m k s) (suc k)
  pub out : k ≡ later_pieces m → Instantiated m (ran m k s)

-- the state behind the first so many pieces, one after the other
abbrev pub behind : Module → ℕ → State → State
behind m zero s = s
behind m (suc k) s = ran m k (behind m k s)

-- what instantiation's pieces do for a module
pub record LaysDown (m : Module) : Type 0 where
  -- each is light
  pub light : (k : ℕ) → k ≤ later_pieces m → IsLight (init_items m k)
  -- each leads on from any state in which it is next
  pub steps : (k : ℕ) (s : State) → Instantiating m s k → LeadsOn m k s
  -- all of them lay down the first store
  pub whole : (s : State) → Instantiating m s 0 → Instantiated m (behind m (suc (later_pieces m)) s)
  -- behind the first one there are at most 30, and one for each page of the memory; and at most 286 in any case
  pub few : later_pieces m ≤ least_pages (slice_get m.mems 0) + 30
  pub most : later_pieces m ≤ 286

abbrev pub InstantiationLaysDownTheFirstStore : Type 0
InstantiationLaysDownTheFirstStore = (m : Module) → IsProgram m → LaysDown m
