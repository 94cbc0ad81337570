use Rattle.std.proofs.Common.{◌≡◌, ◌+◌, map, drop}
use Rattle.mc_nbt.specs.steps.Edit.{rank_of_key}
use Rattle.mc_nbt.specs.View.{entry}
use Rattle.mc_nbt.proofs.edit.open.rank_of_key.Given as goal

abbrev pub invariant-loop-i : goal.invariant-loop-i
invariant-loop-i l = rank_of_key l.name (map entry l.entries) ≡ l.i + rank_of_key l.name (map entry (drop l.i l.entries))
