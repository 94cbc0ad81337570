use Rattle.std.proofs.Common.{◌≡◌, drop}
use Rattle.cc_line.specs.Item.{join}
use Rattle.cc_line.specs.View.{items_view}
use Rattle.cc_tails.proofs.copy.+copy.Given as goal

abbrev pub invariant-copy_of_items-loop-item : goal.invariant-copy_of_items-loop-item
invariant-copy_of_items-loop-item l = join (items_view l.copies.items) (items_view (drop l.item-index l.items)) ≡ items_view l.items
