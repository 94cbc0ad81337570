use Rattle.std.proofs.Common.{◌≡◌, ◌++◌, drop}
use Rattle.cc_line.specs.Item.{items_texts}
use Rattle.cc_line.specs.View.{items_view}
use Rattle.cc_line.proofs.printing.print_items.Given as goal

abbrev pub invariant-loop-item : goal.invariant-loop-item
invariant-loop-item l = l.lines ++ items_texts l.ns (items_view (drop l.item-index l.items)) ≡ items_texts l.ns (items_view l.items)
