use Rattle.std.proofs.Common.{◌≡◌, map, drop}
use Rattle.mc_nbt.specs.Shape.{all_of_kind}
use Rattle.mc_nbt.specs.Tree.{kind}
use Rattle.mc_nbt.specs.View.{view}
use Rattle.mc_nbt.proofs.shape.are_of_kind.Given as goal

abbrev pub invariant-loop-tree : goal.invariant-loop-tree
invariant-loop-tree l = all_of_kind (kind (view l.first)) (map view l.trees) ≡ all_of_kind (kind (view l.first)) (map view (drop l.tree-index l.trees))
