use Rattle.std.proofs.Common.{◌≡◌, ◌+◌, drop}
use Rattle.cc_line.specs.Item.{items_most}
use Rattle.cc_line.specs.View.{items_view}
use Rattle.cc_line.proofs.weight.+most.Given as goal

abbrev pub invariant-most_of_items-loop-item : goal.invariant-most_of_items-loop-item
invariant-most_of_items-loop-item l = l.total + items_most (items_view (drop l.item-index l.items)) ≡ items_most (items_view l.items)
