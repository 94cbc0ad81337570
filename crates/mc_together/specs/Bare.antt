-- Trees without strings. This speaks of trees alone, and would stand as well in `mc_nbt`.
use Rattle.std.specs.Prelude.{Bool, true, false, ◌&&◌, Option, Some, None}
use Rattle.mc_nbt.specs.Tree.{Tree, int, string, list, compound, Items, no_items, item, Fields, no_fields, field}

abbrev mutual
  -- no string stands in a tree
  pub is_bare : Tree → Bool
  is_bare (int z) = true
  is_bare (string s) = false
  is_bare (list ts) = items_bare ts
  is_bare (compound fs) = fields_bare fs

  pub items_bare : Items → Bool
  items_bare no_items = true
  items_bare (item t ts) = is_bare t && items_bare ts

  pub fields_bare : Fields → Bool
  fields_bare no_fields = true
  fields_bare (field k t fs) = is_bare t && fields_bare fs

-- nor in what stands in a storage, if anything does
abbrev pub bare_in : Option Tree → Bool
bare_in None = true
bare_in (Some t) = is_bare t
