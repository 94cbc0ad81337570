use Rattle.std.proofs.Common.{◌≡◌, map, length}
use Rattle.mc_nbt.specs.Tree.{items, int, items_same}
use Rattle.mc_nbt.proofs.same.ints_same.Given as goal

abbrev pub invariant-loop-a : goal.invariant-loop-a
invariant-loop-a l = (items_same (items (map int l.left)) (items (map int l.right)) ≡ items_same (items (map int l.a-iterator.a.rest.now)) (items (map int l.a-iterator.b.rest.now))) × (length l.a-iterator.a.rest.now ≡ length l.a-iterator.b.rest.now)
