use Rattle.std.proofs.Common.{◌≡◌, ◌+◌, ◌*◌, map, drop}
use Rattle.std.specs.Prelude.{nat_lt}
use Rattle.mc_nbt.specs.Tree.{items, fields, items_depth, fields_depth}
use Rattle.mc_nbt.specs.View.{view, entry}
use Rattle.mc_nbt.proofs.depth.+deep.Given as goal

abbrev pub decreases-is_deeper : goal.decreases-is_deeper
decreases-is_deeper l = 3 * l.n

abbrev pub decreases-list_deeper : goal.decreases-list_deeper
decreases-list_deeper l = 3 * l.n + 2

abbrev pub decreases-map_deeper : goal.decreases-map_deeper
decreases-map_deeper l = 3 * l.n + 2

abbrev pub decreases-trees_deeper : goal.decreases-trees_deeper
decreases-trees_deeper l = 3 * l.n + 1

abbrev pub decreases-entries_deeper : goal.decreases-entries_deeper
decreases-entries_deeper l = 3 * l.n + 1

abbrev pub invariant-trees_deeper-loop-tree : goal.invariant-trees_deeper-loop-tree
invariant-trees_deeper-loop-tree l = nat_lt l.n (items_depth (items (map view l.trees))) ≡ nat_lt l.n (items_depth (items (map view (drop l.tree-index l.trees))))

abbrev pub invariant-entries_deeper-loop-entry : goal.invariant-entries_deeper-loop-entry
invariant-entries_deeper-loop-entry l = nat_lt l.n (fields_depth (fields (map entry l.entries))) ≡ nat_lt l.n (fields_depth (fields (map entry (drop l.entry-index l.entries))))
