-- The changes of a tree, as what they leave.
use Rattle.std.specs.Prelude.{◌≡◌, List, Option, Bool, true, false}
use Rattle.mc_nbt.specs.Shape.{is_tree}
use Rattle.mc_nbt.specs.Tree.{Tree, Part, set, append, remove}
use Rattle.mc_nbt.specs.View.{view}
use Rattle.mc_nbt.specs.declared.edit.Changed.{Changed}
use Rattle.mc_nbt.specs.declared.edit.Changed.TheVariants as made
use Rattle.mc_world.specs.declared.tree_change.Way.{Way}
use Rattle.mc_world.specs.declared.tree_change.Way.TheVariants as ways
use Rattle.mc_world.specs.declared.tree_change.TreeChange.{TreeChange}
use Rattle.mc_world.specs.declared.tree_change.TreeChange.TheVariants as change

-- a value put at a path
abbrev pub put_so : Way → Tree → List Part → Tree → Option Tree
put_so ways.Set t ps v = set t ps v
put_so ways.Append t ps v = append t ps v

abbrev pub changed : TreeChange → Tree → List Part → Option Tree
changed (change.Put way v) t ps = put_so way t ps (view v)
changed change.Remove t ps = remove t ps

-- whether what it puts there may stand in a storage
abbrev pub is_fit : TreeChange → Bool
is_fit (change.Put way v) = is_tree (view v)
is_fit change.Remove = true

abbrev pub IsFit : TreeChange → Type 0
IsFit c = is_fit c ≡ true

abbrev pub is_made : Changed → Bool
is_made made.Yes = true
is_made made.No = false
