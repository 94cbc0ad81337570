use Rattle.std.proofs.Common.{◌≡◌, map, drop}
use Rattle.mc_nbt.specs.Tree.{find}
use Rattle.mc_nbt.specs.View.{entry}
use Rattle.pk_entries.proofs.lookup.find_entry.Given as goal

abbrev pub invariant-loop-entry : goal.invariant-loop-entry
invariant-loop-entry l = find l.key (map entry l.entries) ≡ find l.key (map entry (drop l.entry-index l.entries))
