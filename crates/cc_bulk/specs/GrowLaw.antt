-- Laws of growing memory, which the contracts of public functions cite.
use Rattle.std.specs.Prelude.{◌≡◌, ◌≤◌, ◌<◌, ℕ, ◌+◌, ◌-◌, min, List, [], ◌∷◌, ◌++◌, length, replicate, ℤ, pos, negsuc}
use Rattle.std.specs.Prelude.{Some, Bool, false}
use Rattle.std.specs.Prelude.{◌||◌, nat_le, if◌then◌else◌}
use Rattle.std.specs.Int.{w32, cast_unsigned}
use Rattle.std.specs.Str.{bytes_eq}
use Rattle.mc_cmd.specs.Form.{Text}
use Rattle.cc_line.specs.Sight.{Store, in_io, in_memory, in_rest}
use Rattle.cc_line.specs.Key.{key_memory, key_next, key_follows, is_work, is_work_key, PieceId, id_tree}
use Rattle.cc_line.specs.State.{State, place_at}
use Rattle.cc_line.specs.Step.{flow}
use Rattle.cc_line.specs.Item.{Items, run_items, ItemsReady}
use Rattle.cc_page.specs.Pages.{zero_page}
use Rattle.cc_mem.specs.Standing.{HasMemory}
use Rattle.cc_bulk.specs.Grow.{score_missing, grow_items, pages_of_run, grower_items}
use Rattle.cc_mem.specs.Law.{Does, Before, AreLines}

-- ---- what the machine's step tells

-- items that put this number in a place, and tell that so many pages are missing
pub record TellsMissing (xs : Items) (ps : List (List ℕ)) (s : State) (a : ℕ) (z : ℤ) (missing : ℕ) : Type 0 where
  pub does : Does xs s a (z ∷ []) ps
  pub told : does.state.scores score_missing ≡ Some (pos missing)

-- the old number of pages, or -1, where more are asked for than the memory may have
abbrev pub GrowsAreTold : Type 0
GrowsAreTold = (most a : ℕ) (ps : List (List ℕ)) (s : State) → Before false a ps s → most < 2147483648
    → (length ps + cast_unsigned w32 (place_at s a) ≤ most
    → TellsMissing (grow_items most a) ps s a (pos (length ps)) (cast_unsigned w32 (place_at s a)))
    × (most < length ps + cast_unsigned w32 (place_at s a) → TellsMissing (grow_items most a) ps s a (negsuc 0) 0)

-- ---- the pages

-- the keys that the grower may write: the memory, the piece that is next, and those that anyone may
abbrev pub is_grower_key : Store → Text → Bool
is_grower_key in_io k = false
is_grower_key in_memory k = bytes_eq key_memory k
is_grower_key in_rest k = bytes_eq key_next k || is_work_key in_rest k

-- As many pages of zeros are appended as are missing, but no more than one run appends. Where none is missing then, the
-- piece is next that follows.
pub record Appends (missing : ℕ) (follows : PieceId) (ps : List (List ℕ)) (s : State) : Type 0 where
  pub ready : ItemsReady grower_items s
  pub state : State
  pub used : ℕ
  pub ends : run_items grower_items s ≡ flow false state used
  pub memory : HasMemory (ps ++ replicate (min missing pages_of_run) zero_page) state
  pub told : state.scores score_missing ≡ Some (pos (missing - pages_of_run))
  pub next : state.keys in_rest key_next
      ≡ (if nat_le missing pages_of_run then Some (id_tree follows) else s.keys in_rest key_next)
  pub places : state.places ≡ s.places
  pub keys : (r : Store) (k : Text) → is_grower_key r k ≡ false → state.keys r k ≡ s.keys r k
  pub scores : (h : Text) → is_work h ≡ false → state.scores h ≡ s.scores h

abbrev pub PagesAreAppended : Type 0
PagesAreAppended = (missing : ℕ) (follows : PieceId) (ps : List (List ℕ)) (s : State) → HasMemory ps s
    → s.scores score_missing ≡ Some (pos missing) → length ps + missing ≤ 256
    → s.keys in_rest key_follows ≡ Some (id_tree follows) → Appends missing follows ps s

-- ---- lines

abbrev pub GrowsAreLines : Type 0
GrowsAreLines = (most a : ℕ) → most < 2147483648 → a < 2147483648 → AreLines (grow_items most a) 14

abbrev pub GrowerIsLines : Type 0
GrowerIsLines = AreLines grower_items 70
