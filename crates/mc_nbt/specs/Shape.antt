-- Which trees may stand in a storage.
use Rattle.std.specs.Prelude.{◌≡◌, ℕ, List, [], ◌∷◌, Bool, true, ◌&&◌, nat_eq, nat_le}
use Rattle.std.specs.List.{list_all}
use Rattle.mc_nbt.specs.Word.{is_key, is_string_byte, is_int, comes_before}
use Rattle.mc_nbt.specs.Tree.{Tree, int, string, list, compound, Items, no_items, item, Fields, no_fields, field}
use Rattle.mc_nbt.specs.Tree.{of_items, of_fields, kind, depth}

-- elements of one kind: each has the kind of the first
abbrev pub all_of_kind : ℕ → List Tree → Bool
all_of_kind k [] = true
all_of_kind k (t ∷ ts) = nat_eq k (kind t) && all_of_kind k ts

abbrev pub is_one_kind : List Tree → Bool
is_one_kind [] = true
is_one_kind (t ∷ ts) = all_of_kind (kind t) ts

-- keys that rise in the order of their bytes, so that no two are equal; each comes after the one before it
abbrev pub rise_after : List ℕ → List (List ℕ × Tree) → Bool
rise_after k [] = true
rise_after k (e ∷ es) = comes_before k e.0 && rise_after e.0 es

abbrev pub is_rising : List (List ℕ × Tree) → Bool
is_rising [] = true
is_rising (e ∷ es) = rise_after e.0 es

abbrev mutual
  -- whether a tree is one of its kind at every level, whatever its depth: its ints are in their range, its
  -- strings printable, its keys are keys and rise, and the elements of each list have one kind
  pub is_shaped : Tree → Bool
  is_shaped (int z) = is_int z
  is_shaped (string s) = list_all is_string_byte s
  is_shaped (list ts) = items_shaped ts && is_one_kind (of_items ts)
  is_shaped (compound fs) = fields_shaped fs && is_rising (of_fields fs)

  pub items_shaped : Items → Bool
  items_shaped no_items = true
  items_shaped (item t ts) = is_shaped t && items_shaped ts

  pub fields_shaped : Fields → Bool
  fields_shaped no_fields = true
  fields_shaped (field k t fs) = is_key k && (is_shaped t && fields_shaped fs)

-- whether a tree may stand in a storage: shaped, and at most 64 deep
abbrev pub is_tree : Tree → Bool
is_tree t = is_shaped t && nat_le (depth t) 64

abbrev pub IsTree : Tree → Type 0
IsTree t = is_tree t ≡ true
