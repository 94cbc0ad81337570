-- The trees, paths and steps that the code's values stand for.
use Rattle.std.specs.Prelude.{◌≢◌, List, ℕ, ℤ, map}
use Rattle.mc_nbt.specs.Tree.{Tree, Items, Fields, Part, items, fields}
use Rattle.mc_nbt.specs.Tree as tree
use Rattle.mc_nbt.specs.declared.tree.Nbt.{Nbt, fold-Nbt}
use Rattle.mc_nbt.specs.declared.tree.Nbt.TheOpen.{Nbt-F, NbtList-F, NbtMap-F}
use Rattle.mc_nbt.specs.declared.tree.NbtList.{NbtList, fold-NbtList}
use Rattle.mc_nbt.specs.declared.tree.NbtMap.{NbtMap, fold-NbtMap}
use Rattle.mc_nbt.specs.declared.path.PathPart.{PathPart}
use Rattle.mc_nbt.specs.declared.path.PathPart.TheVariants as steps
use Rattle.mc_nbt.specs.declared.lookup.Sel.{Sel}
use Rattle.mc_nbt.specs.declared.lookup.Sel.TheVariants as sels

-- one level, with each tree inside already seen
abbrev pub tree_step : Nbt-F Tree Items Fields → Tree
tree_step (Nbt-F.Int z) = tree.int z
tree_step (Nbt-F.Str s) = tree.string s
tree_step (Nbt-F.List l) = tree.list l
tree_step (Nbt-F.Compound m) = tree.compound m

-- both ways to keep a list stand for one list
abbrev pub list_step : NbtList-F Tree Items Fields → Items
list_step (NbtList-F.Ints v) = items (map tree.int v.items)
list_step (NbtList-F.Trees v) = items v.items

abbrev pub map_step : NbtMap-F Tree Items Fields → Fields
map_step m = fields m.entries.items

-- the tree that an `Nbt` stands for
abbrev pub view : Nbt → Tree
view = fold-Nbt Tree Items Fields tree_step list_step map_step

abbrev pub list_view : NbtList → Items
list_view = fold-NbtList Tree Items Fields tree_step list_step map_step

abbrev pub map_view : NbtMap → Fields
map_view = fold-NbtMap Tree Items Fields tree_step list_step map_step

abbrev pub entry : (List ℕ × Nbt) → (List ℕ × Tree)
entry e = (e.0, view e.1)

-- the path that a list of steps stands for
abbrev pub part : PathPart → Part
part (steps.Key k) = tree.key k
part (steps.Place i) = tree.place i

abbrev pub parts : List PathPart → List Part
parts = map part

-- the tree that is selected
abbrev pub sel : Sel → Tree
sel (sels.Int z) = tree.int z
sel (sels.Tree t) = view t.now

-- no int is lent: it is told as the number
abbrev pub LendsNoInt : Sel → Type 0
LendsNoInt (sels.Int z) = Unit {0}
LendsNoInt (sels.Tree t) = (z : ℤ) → view t.now ≢ tree.int z
