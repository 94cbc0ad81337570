-- What the storages of a world keep.
use Rattle.std.specs.Prelude.{◌≡◌, Option, Some, None, option_map, Bool, true, String}
use Rattle.indexmap.specs.IndexMap.{IndexMap}
use Rattle.mc_nbt.specs.Shape.{is_tree}
use Rattle.mc_nbt.specs.Tree.{Tree}
use Rattle.mc_nbt.specs.View.{view}
use Rattle.mc_nbt.specs.declared.tree.Nbt.{Nbt}
use Rattle.mc_cmd.specs.Form.{Text}
use Rattle.mc_world.specs.NamedMap.{name_get}

-- whether what stands in a storage may
abbrev pub is_stored : Option Tree → Bool
is_stored None = true
is_stored (Some t) = is_tree t

-- each tree that stands in a storage may
abbrev pub AreTrees : {A S : Type 0} → IndexMap (String A) Nbt S → Type 0
AreTrees m = (i : Text) → is_stored (option_map view (name_get m i)) ≡ true
