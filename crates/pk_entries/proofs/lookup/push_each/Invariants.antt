use Rattle.std.proofs.Common.{◌≡◌, ◌++◌, map, take}
use Rattle.mc_nbt.specs.View.{view}
use Rattle.pk_entries.specs.steps.Reading.{int_of}
use Rattle.pk_entries.proofs.lookup.push_each.Given as goal

abbrev pub invariant-loop-tree : goal.invariant-loop-tree
invariant-loop-tree l = l.ints.items ≡ l.initial.ints.items ++ map int_of (map view (take l.tree-index l.trees))
