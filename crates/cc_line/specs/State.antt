-- States: what a world shows of a running pack, with the places of the innermost frame as a list of numbers.
use Rattle.std.specs.Prelude.{ℕ, suc, List, [], ◌∷◌, ◌++◌, map, ℤ, pos, Option, Some, None, Bool, ◌&&◌, if◌then◌else◌}
use Rattle.std.specs.Prelude.{nat_le}
use Rattle.std.specs.Prelude.{option_and_then, option_map, unwrap_or, slice_set, slice_index_or, take, drop}
use Rattle.std.specs.Str.{bytes_eq}
use Rattle.mc_nbt.specs.Tree.{Tree, Items, int, string, list, compound, no_items, no_fields, item, list_of, compound_of}
use Rattle.mc_nbt.specs.Tree.{Part, key, place, select, set_at, append_at, remove_at, add_to, depth}
use Rattle.mc_cmd.specs.Form.{Text}
use Rattle.mc_cmd.specs.World.{number_of}
use Rattle.cc_line.specs.Sight.{Store, in_rest, same_store, Sight, with_key, with_holder}
use Rattle.cc_line.specs.Place.{score_places, shown, Spot, scratch, placed}
use Rattle.cc_line.specs.Key.{key_frame, key_list}

-- the places of the innermost frame, the scores that are no places, and all keys but the frame's
pub record State : Type 0 where
  pub places : List ℤ
  pub scores : Text → Option ℤ
  pub keys : Store → Text → Option Tree

abbrev pub ints : List ℤ → Tree
ints zs = list_of (map int zs)

-- the frame's tree, by the places that stand in the list
abbrev pub frame_tree : List ℤ → Tree
frame_tree zs = compound_of ((key_list, ints zs) ∷ [])

-- what a world shows of a state: the first places are scores, the others a list
abbrev pub seen : State → Sight
seen s = record {
  scores = shown s.scores 0 (take score_places s.places);
  keys = with_key s.keys in_rest key_frame (frame_tree (drop score_places s.places));
}

-- whether a key is the frame's
abbrev pub is_frame : Store → Text → Bool
is_frame r k = same_store in_rest r && bytes_eq key_frame k

-- the path to an element of the frame's list
abbrev pub slot : ℕ → List Part
slot k = key key_frame ∷ (key key_list ∷ (place (pos k) ∷ []))

abbrev pub frame_path : List Part
frame_path = key key_frame ∷ (key key_list ∷ [])

-- ---- places and scores

-- the number in a place; 0 where there is none
abbrev pub place_at : State → ℕ → ℤ
place_at s i = slice_index_or s.places i (pos 0)

abbrev pub with_place : State → ℕ → ℤ → State
with_place s i z = record s { places = slice_set s.places i z }

-- these numbers in the places from one on
abbrev pub set_places : List ℤ → ℕ → List ℤ → List ℤ
set_places ps i [] = ps
set_places ps i (z ∷ zs) = set_places (slice_set ps i z) (suc i) zs

abbrev pub with_score : State → Text → ℤ → State
with_score s h z = record s { scores = with_holder s.scores h z }

-- the score of a spot, and the state with another one there
abbrev pub read : State → Spot → Option ℤ
read s (scratch h) = s.scores h
read s (placed i) = Some (place_at s i)

abbrev pub with_spot : State → Spot → ℤ → State
with_spot s (scratch h) z = with_score s h z
with_spot s (placed i) z = with_place s i z

-- ---- paths under a key

-- a path under a key of a storage, which isn't the frame's
pub record Site : Type 0 where
  pub store : Store
  pub name : Text
  pub parts : List Part

-- its path from the top of the storage
abbrev pub site_path : Site → List Part
site_path p = key p.name ∷ p.parts

abbrev pub at_key : Store → Text → Site
at_key r k = record { store = r; name = k; parts = [] }

-- what it selects
abbrev pub selected : State → Site → Option Tree
selected s p = option_and_then (λ u. select u p.parts) (s.keys p.store p.name)

-- what a `get` gives of that: 0 where nothing stands
abbrev pub number_at : Option Tree → ℤ
number_at None = pos 0
number_at (Some t) = number_of t

-- what stands under a key after a `set`, an `append` and a `remove` at a path below it, where they don't fail
abbrev pub set_under : Option Tree → List Part → Tree → Option Tree
set_under o [] t = Some t
set_under o (q ∷ qs) t = set_at q qs t (unwrap_or o (compound no_fields))

abbrev pub append_under : Option Tree → List Part → Tree → Option Tree
append_under o [] t = add_to t (unwrap_or o (list no_items))
append_under o (q ∷ qs) t = append_at q qs t (unwrap_or o (compound no_fields))

abbrev pub remove_under : Option Tree → List Part → Option Tree
remove_under o [] = None
remove_under o (q ∷ qs) = option_and_then (remove_at q qs) o

-- what stands under a key is at most 63 deep
abbrev pub within_key : Tree → Option Tree
within_key t = if nat_le (depth t) 63 then Some t else None

-- the state with this tree under the key of a path, or as it was where there is none
abbrev pub with_tree : State → Site → Option Tree → State
with_tree s p None = s
with_tree s p (Some t) = record s { keys = with_key s.keys p.store p.name t }

-- a value is set there, and one is appended there; where that fails nothing changes
abbrev pub with_set : State → Site → Tree → State
with_set s p t = with_tree s p (option_and_then within_key (set_under (s.keys p.store p.name) p.parts t))

abbrev pub with_append : State → Site → Tree → State
with_append s p t = with_tree s p (option_and_then within_key (append_under (s.keys p.store p.name) p.parts t))

-- the same of a value that may be missing
abbrev pub with_copy : State → Site → Option Tree → State
with_copy s p None = s
with_copy s p (Some t) = with_set s p t

abbrev pub with_append_copy : State → Site → Option Tree → State
with_append_copy s p None = s
with_append_copy s p (Some t) = with_append s p t

abbrev pub with_erased : State → Site → State
with_erased s p = with_tree s p (remove_under (s.keys p.store p.name) p.parts)

-- ---- the frame's list

-- the ints of a list that has nothing else
abbrev pub int_before : Tree → Option (List ℤ) → Option (List ℤ)
int_before (int z) o = option_map (λ zs. z ∷ zs) o
int_before (string b) o = None
int_before (list ts) o = None
int_before (compound fs) o = None

abbrev pub items_ints : Items → Option (List ℤ)
items_ints no_items = Some []
items_ints (item t ts) = int_before t (items_ints ts)

abbrev pub tree_ints : Tree → Option (List ℤ)
tree_ints (list ts) = items_ints ts
tree_ints (int z) = None
tree_ints (string b) = None
tree_ints (compound fs) = None

-- the state with these places from the 128th on
abbrev pub with_list : State → List ℤ → State
with_list s zs = record s { places = take score_places s.places ++ zs }

-- the same, where there are such
abbrev pub with_some_list : State → Option (List ℤ) → State
with_some_list s None = s
with_some_list s (Some zs) = with_list s zs
