use Rattle.pk_entries.proofs.Frames.{KeptSoFar}
use Rattle.pk_entries.proofs.entry.entries_in.Given as goal

abbrev pub invariant-loop-tree : goal.invariant-loop-tree
invariant-loop-tree l = KeptSoFar l.trees l.tree-index l.entries.items
