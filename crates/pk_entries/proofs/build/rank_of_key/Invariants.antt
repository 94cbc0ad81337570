use Rattle.std.proofs.Common.{◌≡◌, ◌+◌, map, drop}
use Rattle.mc_nbt.specs.steps.Edit.{rank_of_key}
use Rattle.mc_nbt.specs.View.{entry}
use Rattle.pk_entries.proofs.build.rank_of_key.Given as goal

abbrev pub invariant-loop-i : goal.invariant-loop-i
invariant-loop-i l = rank_of_key l.key (map entry l.fields) ≡ l.i + rank_of_key l.key (map entry (drop l.i l.fields))
