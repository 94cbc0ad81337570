-- Which paths may be written, and which lead to different places.
use Rattle.std.specs.Prelude.{◌≢◌, ◌<◌, ℕ, ℤ, pos, negsuc, List, [], ◌∷◌, length, Bool, true, false, ◌&&◌, nat_le}
use Rattle.std.specs.List.{list_all}
use Rattle.mc_nbt.specs.Word.{is_key, is_int}
use Rattle.mc_nbt.specs.Tree.{Part, key, place}

-- a key, or a place in the range of ints
abbrev pub is_part : Part → Bool
is_part (key k) = is_key k
is_part (place i) = is_int i

abbrev pub begins_with_key : List Part → Bool
begins_with_key [] = false
begins_with_key (key k ∷ ps) = true
begins_with_key (place i ∷ ps) = false

-- a path: 1 to 16 parts, the first of which is a key
unfoldable pub is_path : List Part → Bool
is_path ps = begins_with_key ps && (nat_le (length ps) 16 && list_all is_part ps)

-- two steps from one tree that never lead to one place: to different keys; to different places, both counted
-- from the front or both from the end; or one to a key and the other to a place
pub data Differ : Part → Part → Type 0 where
  keys : (k l : List ℕ) → k ≢ l → Differ (key k) (key l)
  places : (i j : ℕ) → i ≢ j → Differ (place (pos i)) (place (pos j))
  places_from_end : (i j : ℕ) → i ≢ j → Differ (place (negsuc i)) (place (negsuc j))
  key_and_place : (k : List ℕ) (i : ℤ) → Differ (key k) (place i)
  place_and_key : (i : ℤ) (k : List ℕ) → Differ (place i) (key k)

-- two paths that part: they are the same up to a step, and there they differ
pub data Apart : List Part → List Part → Type 0 where
  here : (p q : Part) (ps qs : List Part) → Differ p q → Apart (p ∷ ps) (q ∷ qs)
  later : (p : Part) (ps qs : List Part) → Apart ps qs → Apart (p ∷ ps) (p ∷ qs)

-- two steps from one tree: what the second leads to stays where it is when what the first leads to is removed. The
-- second leads to another key, or to a place on the near side of the one that is removed: before it where both are
-- counted from the front, and behind it where both are counted from the end. The places on its far side move up.
pub data OutlivesAt : Part → Part → Type 0 where
  other_key : (k l : List ℕ) → k ≢ l → OutlivesAt (key k) (key l)
  near_place : (i j : ℕ) → j < i → OutlivesAt (place (pos i)) (place (pos j))
  near_place_from_end : (i j : ℕ) → j < i → OutlivesAt (place (negsuc i)) (place (negsuc j))
  place_not_key : (k : List ℕ) (i : ℤ) → OutlivesAt (key k) (place i)
  key_not_place : (i : ℤ) (k : List ℕ) → OutlivesAt (place i) (key k)

-- two paths: what the second selects stays when what the first selects is removed. They part above the last step of
-- the first, or they part there in such a way
pub data Outlives : List Part → List Part → Type 0 where
  above : (p r q : Part) (ps qs : List Part) → Differ p q → Outlives (p ∷ r ∷ ps) (q ∷ qs)
  at_last : (p q : Part) (qs : List Part) → OutlivesAt p q → Outlives (p ∷ []) (q ∷ qs)
  deeper : (p : Part) (ps qs : List Part) → Outlives ps qs → Outlives (p ∷ ps) (p ∷ qs)
