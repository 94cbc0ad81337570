use Rattle.std.proofs.Common.{◌≡◌, map, drop}
use Rattle.mc_nbt.specs.Shape.{rise_after}
use Rattle.mc_nbt.specs.View.{entry}
use Rattle.mc_nbt.proofs.shape.rise_after.Given as goal

abbrev pub invariant-loop-entry : goal.invariant-loop-entry
invariant-loop-entry l = rise_after l.first (map entry l.entries) ≡ rise_after l.last (map entry (drop l.entry-index l.entries))
