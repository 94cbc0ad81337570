use Rattle.std.proofs.Common.{◌≡◌, take}
use Rattle.mc_nbt.specs.View.{view}
use Rattle.cc_line.specs.Running.{Kept, entry_tree}
use Rattle.pk_entries.proofs.entry.first_places.Given as goal

abbrev pub invariant-loop-place : goal.invariant-loop-place
invariant-loop-place l = (b : Kept) → view l.tree ≡ entry_tree b → l.places.items ≡ take l.place-counter b.places
