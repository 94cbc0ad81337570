use Rattle.std.proofs.Common.{◌≡◌, map, take}
use Rattle.mc_nbt.specs.Tree.{int}
use Rattle.mc_nbt.specs.View.{view}
use Rattle.pk_sight.proofs.ints.ints_of_trees.Given as goal

abbrev pub invariant-loop-tree : goal.invariant-loop-tree
invariant-loop-tree l = map view (take l.tree-index l.trees) ≡ map int l.found.items
