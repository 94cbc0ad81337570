-- How trees are spelled: the one spelling of each.
use Rattle.std.specs.Prelude.{◌≡◌, ℕ, List, [], ◌∷◌, ◌++◌, true}
use Rattle.std.specs.Fmt.{signed_decimal}
use Rattle.mc_nbt.specs.Tree.{Tree, int, string, list, compound, Items, no_items, item, Fields, no_fields, field}
use Rattle.mc_nbt.specs.Shape.{is_shaped}

abbrev mutual
  -- an int in decimal; a string in `"`; `[V,V]`; `{KEY:V,KEY:V}`. No space stands outside strings
  pub tree_text : Tree → List ℕ
  tree_text (int z) = signed_decimal z
  tree_text (string s) = 34 ∷ (s ++ (34 ∷ []))
  tree_text (list ts) = 91 ∷ first_item_text ts
  tree_text (compound fs) = 123 ∷ first_field_text fs

  pub first_item_text : Items → List ℕ
  first_item_text no_items = 93 ∷ []
  first_item_text (item t ts) = tree_text t ++ more_items_text ts

  pub more_items_text : Items → List ℕ
  more_items_text no_items = 93 ∷ []
  more_items_text (item t ts) = 44 ∷ (tree_text t ++ more_items_text ts)

  pub first_field_text : Fields → List ℕ
  first_field_text no_fields = 125 ∷ []
  first_field_text (field k t fs) = k ++ (58 ∷ (tree_text t ++ more_fields_text fs))

  pub more_fields_text : Fields → List ℕ
  more_fields_text no_fields = 125 ∷ []
  more_fields_text (field k t fs) = 44 ∷ (k ++ (58 ∷ (tree_text t ++ more_fields_text fs)))

-- the text spells the tree, which may be of any depth
pub record Spells (text : List ℕ) (t : Tree) : Type 0 where
  pub shaped : is_shaped t ≡ true
  pub spelled : text ≡ tree_text t
