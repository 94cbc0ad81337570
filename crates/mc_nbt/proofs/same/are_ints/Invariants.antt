use Rattle.std.proofs.Common.{◌≡◌, map, length}
use Rattle.mc_nbt.specs.Tree.{items, int, items_same}
use Rattle.mc_nbt.specs.View.{view}
use Rattle.mc_nbt.proofs.same.are_ints.Given as goal

abbrev pub invariant-loop-tree : goal.invariant-loop-tree
invariant-loop-tree l = (items_same (items (map view l.trees)) (items (map int l.ints)) ≡ items_same (items (map view l.tree-iterator.a.rest.now)) (items (map int l.tree-iterator.b.rest.now))) × (length l.tree-iterator.a.rest.now ≡ length l.tree-iterator.b.rest.now)
