use Rattle.mc_nbt.specs.Shape.{IsTree}
use Rattle.mc_nbt.specs.View.{view}
use Rattle.test_commands.proofs.trees.is_each_set.Given as goal

abbrev pub invariant-loop-place : goal.invariant-loop-place
invariant-loop-place l = IsTree (view l.tree)
