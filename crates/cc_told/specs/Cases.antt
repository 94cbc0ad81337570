-- For what a state stands, by the piece that it names: names of one kind leave two cases of `Standing` at most. The
-- number of a function is below the first of those that stand in the names of other pieces.
use Rattle.std.specs.Prelude.{◌≡◌, ◌<◌, ◌⊎◌, ℕ, ◌+◌, List, ◌∷◌, length, Some}
use Rattle.mc_nbt.specs.declared.value.Value.{Value}
use Rattle.wm_ast.specs.declared.module.Module.{Module}
use Rattle.wm_valid.specs.Height.{Low}
use Rattle.wm_flat.specs.Flat.{Activation}
use Rattle.wm_flat.specs.Program.{IsProgram}
use Rattle.cc_line.specs.Sight.{in_rest}
use Rattle.cc_line.specs.Key.{key_next, PieceId, body_piece, init_piece, shared_piece, end_piece, id_tree, group_shared}
use Rattle.cc_line.specs.Routine.{value_ints}
use Rattle.cc_line.specs.State.{State}
use Rattle.cc_call.specs.Frames.{first_opening, opening_piece}
use Rattle.cc_move.specs.Calls.{with_results}
use Rattle.cc_pieces.specs.Fetching.{most_fetches, fetch_piece}
use Rattle.cc_pieces.specs.Growing.{grower_index, grower_piece}
use Rattle.cc_pieces.specs.Placing.{first_placer, first_pair_placer, placer}
use Rattle.cc_pieces.specs.Restoring.{first_restore, restore_piece}
use Rattle.cc_simulate.specs.Stands.{At, Opening, Restoring, Making, Fetching, Placing, Growing, Dividing, Standing}

-- ---- cases

-- a cut of this function, with this index
pub record AtCut (m : Module) (cs : List Activation) (a : Activation) (s : State) (func index : ℕ) : Type 0 where
  pub standing : At m cs a s
  pub in_func : a.func ≡ func
  pub is_index : standing.cut.index ≡ index

-- before that cut: its call has ended, whose caller is to be restored; or its division is done
pub data BeforeCut (m : Module) (cs : List Activation) (a : Activation) (s : State) (func index : ℕ) : Type 0 where
  call_ended : (c : Activation) (us : List Value) (p : Restoring m cs c us s) → a ≡ with_results c us → c.func ≡ func
      → p.waits.cut.index ≡ index → BeforeCut m cs a s func index
  division_done : (p : Dividing m cs a s) → a.func ≡ func → p.cut.index ≡ index → p.left ≡ 0
      → BeforeCut m cs a s func index

-- before that cut, where more is to be done: so many pieces have fetched arguments of its call; or turns of its division
-- are left
pub data OnTheWay (m : Module) (cs : List Activation) (a : Activation) (s : State) (func index k : ℕ) : Type 0 where
  args_missing : (c : Activation) (ds : List Activation) (p : Fetching m ds c a k s) → cs ≡ c ∷ ds → c.func ≡ func
      → p.passing.waits.cut.index ≡ index → OnTheWay m cs a s func index k
  turns_missing : (p : Dividing m cs a s) → a.func ≡ func → p.cut.index ≡ index → 0 < p.left → k ≡ 0
      → OnTheWay m cs a s func index k

-- a call of this function begins, of few arguments or of many
pub data AtOpening (m : Module) (cs : List Activation) (a : Activation) (s : State) (func : ℕ) : Type 0 where
  few_passed : Opening m cs a s → a.func ≡ func → AtOpening m cs a s func
  many_passed : (c : Activation) (ds : List Activation) → Making m ds c a s → cs ≡ c ∷ ds → a.func ≡ func
      → AtOpening m cs a s func

-- a value of so many ints is on its way to this place
pub record AtPlacer (m : Module) (cs : List Activation) (a : Activation) (s : State) (ints spot : ℕ) : Type 0 where
  pub standing : Placing m cs a s
  pub is_wide : length (value_ints standing.value) ≡ ints
  pub is_spot : standing.spot ≡ spot

-- ---- laws

-- the state names this piece
abbrev pub Names : PieceId → State → Type 0
Names i s = s.keys in_rest key_next ≡ Some (id_tree i)

-- the piece of a cut, one that stands before a cut, and one that is run more often before it
abbrev pub CutsAreNamed : Type 0
CutsAreNamed = (m : Module) → IsProgram m → Low m → (cs : List Activation) (a : Activation) (s : State)
    → Standing m cs a s → (n j : ℕ) → n < group_shared → j < first_restore → Names (body_piece n j) s
    → (0 < j) × AtCut m cs a s n j

abbrev pub RestoresAreNamed : Type 0
RestoresAreNamed = (m : Module) → IsProgram m → Low m → (cs : List Activation) (a : Activation) (s : State)
    → Standing m cs a s → (n j : ℕ) → n < group_shared → j < first_restore → Names (restore_piece n j) s
    → BeforeCut m cs a s n j

abbrev pub FetchesAreNamed : Type 0
FetchesAreNamed = (m : Module) → IsProgram m → Low m → (cs : List Activation) (a : Activation) (s : State)
    → Standing m cs a s → (n j k : ℕ) → n < group_shared → k < most_fetches → Names (fetch_piece n j k) s
    → OnTheWay m cs a s n j k

-- the piece that makes a function's frame
abbrev pub OpeningsAreNamed : Type 0
OpeningsAreNamed = (m : Module) → IsProgram m → Low m → (cs : List Activation) (a : Activation) (s : State)
    → Standing m cs a s → (n : ℕ) → first_opening + n < first_placer → Names (opening_piece n) s
    → AtOpening m cs a s n

-- one that puts a value to its place, and the one that appends pages
abbrev pub PlacersAreNamed : Type 0
PlacersAreNamed = (m : Module) → IsProgram m → Low m → (cs : List Activation) (a : Activation) (s : State)
    → Standing m cs a s → (ints i : ℕ) → (ints ≡ 1) ⊎ (ints ≡ 2) → first_placer + i < first_pair_placer
    → Names (placer ints i) s → AtPlacer m cs a s ints i

abbrev pub GrowersAreNamed : Type 0
GrowersAreNamed = (m : Module) → IsProgram m → Low m → (cs : List Activation) (a : Activation) (s : State)
    → Standing m cs a s → Names grower_piece s → Growing m cs a s

-- a piece of none of these kinds: the first one of a function, of instantiation, that ends a job, or a shared one
abbrev pub IsOther : PieceId → Type 0
IsOther (body_piece n j) = (n < group_shared) × (j ≡ 0)
IsOther (init_piece j) = Unit {0}
IsOther (shared_piece j) = (j < first_opening) ⊎ (grower_index < j)
IsOther (end_piece w) = Unit {0}

abbrev pub OthersAreNone : Type 0
OthersAreNone = (m : Module) → IsProgram m → Low m → (cs : List Activation) (a : Activation) (s : State)
    → Standing m cs a s → (i : PieceId) → IsOther i → Names i s → ⊥
