use Rattle.std.proofs.Common.{◌≡◌, map, length}
use Rattle.mc_nbt.specs.Tree.{items, fields, items_same, fields_same}
use Rattle.mc_nbt.specs.View.{view, entry}
use Rattle.mc_nbt.proofs.same.+same.Given as goal

abbrev pub invariant-trees_same-loop-a : goal.invariant-trees_same-loop-a
invariant-trees_same-loop-a l = (items_same (items (map view l.left)) (items (map view l.right)) ≡ items_same (items (map view l.a-iterator.a.rest.now)) (items (map view l.a-iterator.b.rest.now))) × (length l.a-iterator.a.rest.now ≡ length l.a-iterator.b.rest.now)

abbrev pub invariant-entries_same-loop-a : goal.invariant-entries_same-loop-a
invariant-entries_same-loop-a l = (fields_same (fields (map entry l.left)) (fields (map entry l.right)) ≡ fields_same (fields (map entry l.a-iterator.a.rest.now)) (fields (map entry l.a-iterator.b.rest.now))) × (length l.a-iterator.a.rest.now ≡ length l.a-iterator.b.rest.now)
