-- The parts of what is read: storages with keys, places that are scores, and what a running pack has.
use Rattle.std.specs.Prelude.{◌≡◌, ◌<◌, ◌≤◌, ℕ, suc, List, [], ◌∷◌, length, ℤ, pos, negsuc, Option, Some, None}
use Rattle.mc_nbt.specs.Tree.{Tree, Fields, int, compound, depth}
use Rattle.mc_cmd.specs.Form.{Text}
use Rattle.mc_cmd.specs.World.{World, tree_in}
use Rattle.cc_line.specs.declared.table.Table.TheVariants as tables
use Rattle.cc_line.specs.Key.{key_state, key_end, score_trap, score_two, score_thirty_two, score_half_word, score_least}
use Rattle.cc_line.specs.Key.{key_low, key_high, key_and, key_raised, key_left, key_right_signed, key_right}
use Rattle.cc_line.specs.Key.{key_turn_left, key_turn_right}
use Rattle.cc_line.specs.Place.{score_places, place_name}
use Rattle.cc_line.specs.Sight.{Store, in_io, in_rest, store_id}
use Rattle.cc_line.specs.State.{State}
use Rattle.cc_line.specs.Table.{table_tree}

-- ---- storages

-- a compound that is at most 64 deep
pub record IsKeyed (t : Tree) : Type 0 where
  pub fields : Fields
  pub is : t ≡ compound fields
  pub shallow : depth t ≤ 64

-- each of the three storages is one
abbrev pub HasStores : Text → World → Type 0
HasStores ns w = (s : Store) → IsKeyed (tree_in w (store_id ns s))

-- one of them isn't
abbrev pub LacksStore : Text → World → Type 0
LacksStore ns w = (s : Store) × (IsKeyed (tree_in w (store_id ns s)) → ⊥)

-- ---- places that are scores

-- the scores of places, from the i-th one on, are these
abbrev pub AreScores : (Text → Option ℤ) → ℕ → List ℤ → Type 0
AreScores scores i [] = Unit {0}
AreScores scores i (z ∷ zs) = (scores (place_name i) ≡ Some z) × AreScores scores (suc i) zs

-- these are all places that are scores
pub record AreFirstPlaces (ns : Text) (w : World) (zs : List ℤ) : Type 0 where
  pub all : length zs ≡ score_places
  pub scores : AreScores (λ h. w.scores h ns) 0 zs

-- one of them isn't set
pub record LacksPlace (ns : Text) (w : World) : Type 0 where
  pub place : ℕ
  pub low : place < score_places
  pub unset : w.scores (place_name place) ns ≡ None

-- ---- a running pack

-- no trap is recorded, the job's state is 1, and the state in which it ends is told
pub record IsUnderWay (s : State) : Type 0 where
  pub trap : s.scores score_trap ≡ Some (pos 0)
  pub state : s.keys in_io key_state ≡ Some (int (pos 1))
  pub ending : (t : Tree) × (s.keys in_rest key_end ≡ Some t) × (depth t ≤ 63)

pub record HasConstants (s : State) : Type 0 where
  pub two : s.scores score_two ≡ Some (pos 2)
  pub thirty_two : s.scores score_thirty_two ≡ Some (pos 32)
  pub half_word : s.scores score_half_word ≡ Some (pos 65536)
  pub least : s.scores score_least ≡ Some (negsuc 2147483647)

-- the tables of shifts and rotations
pub record HasTables (s : State) : Type 0 where
  pub left : s.keys in_rest key_left ≡ Some (table_tree tables.ShiftLeft)
  pub right_signed : s.keys in_rest key_right_signed ≡ Some (table_tree tables.ShiftRightSigned)
  pub right : s.keys in_rest key_right ≡ Some (table_tree tables.ShiftRight)
  pub turn_left : s.keys in_rest key_turn_left ≡ Some (table_tree tables.RotateLeft)
  pub turn_right : s.keys in_rest key_turn_right ≡ Some (table_tree tables.RotateRight)

-- those of bytes
pub record HasByteTables (s : State) : Type 0 where
  pub low : s.keys in_rest key_low ≡ Some (table_tree tables.LowByte)
  pub high : s.keys in_rest key_high ≡ Some (table_tree tables.HighByte)
  pub ands : s.keys in_rest key_and ≡ Some (table_tree tables.ByteAnd)
  pub raised : s.keys in_rest key_raised ≡ Some (table_tree tables.RaisedAnd)
