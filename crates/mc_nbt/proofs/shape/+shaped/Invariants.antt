use Rattle.std.proofs.Common.{◌≡◌, map, drop}
use Rattle.mc_nbt.specs.Shape.{items_shaped, fields_shaped}
use Rattle.mc_nbt.specs.Tree.{items, fields}
use Rattle.mc_nbt.specs.View.{view, entry}
use Rattle.mc_nbt.proofs.shape.+shaped.Given as goal

abbrev pub invariant-are_trees_shaped-loop-tree : goal.invariant-are_trees_shaped-loop-tree
invariant-are_trees_shaped-loop-tree l = items_shaped (items (map view l.trees)) ≡ items_shaped (items (map view (drop l.tree-index l.trees)))

abbrev pub invariant-are_entries_shaped-loop-entry : goal.invariant-are_entries_shaped-loop-entry
invariant-are_entries_shaped-loop-entry l = fields_shaped (fields (map entry l.entries)) ≡ fields_shaped (fields (map entry (drop l.entry-index l.entries)))
