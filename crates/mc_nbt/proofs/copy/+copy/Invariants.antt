use Rattle.std.proofs.Common.{◌≡◌, take, map}
use Rattle.mc_nbt.specs.View.{view, entry}
use Rattle.mc_nbt.proofs.copy.+copy.Given as goal

abbrev pub invariant-copy_items-loop-item : goal.invariant-copy_items-loop-item
invariant-copy_items-loop-item l = map view l.copies.items ≡ map view (take l.item-index l.item-items)

abbrev pub invariant-copy_entries-loop-field : goal.invariant-copy_entries-loop-field
invariant-copy_entries-loop-field l = map entry l.copies.items ≡ map entry (take l.field-index l.field-items)
