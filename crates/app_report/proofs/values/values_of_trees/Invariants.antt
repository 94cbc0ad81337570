use Rattle.std.proofs.Common.{◌≡◌, ◌++◌, map, drop}
use Rattle.std.specs.Prelude.{option_map}
use Rattle.mc_cmd.specs.Layout.{values_in}
use Rattle.mc_nbt.specs.Tree.{items}
use Rattle.mc_nbt.specs.View.{view}
use Rattle.app_report.proofs.values.values_of_trees.Given as goal

abbrev pub invariant-loop-tree : goal.invariant-loop-tree
invariant-loop-tree l = values_in (items (map view l.trees)) ≡ option_map (λ vs. l.values.items ++ vs) (values_in (items (map view (drop l.tree-index l.trees))))
