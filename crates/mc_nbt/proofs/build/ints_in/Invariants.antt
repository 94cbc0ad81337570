use Rattle.std.proofs.Common.{◌≡◌, map, take}
use Rattle.mc_nbt.specs.Tree as spec
use Rattle.mc_nbt.specs.View.{view}
use Rattle.mc_nbt.proofs.build.ints_in.Given as goal

abbrev pub invariant-loop-item : goal.invariant-loop-item
invariant-loop-item l = map spec.int l.ints.items ≡ map view (take l.item-index l.items)
