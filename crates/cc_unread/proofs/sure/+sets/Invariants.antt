use Rattle.std.proofs.Common.{◌≡◌, drop, map}
use Rattle.cc_line.specs.View.{items_view, scratch_text}
use Rattle.cc_unread.specs.Sure as spec
use Rattle.cc_unread.proofs.sure.+sets.Given as goal

abbrev pub invariant-set_by_items-loop-item : goal.invariant-set_by_items-loop-item
invariant-set_by_items-loop-item l = spec.items_sets (map scratch_text l.set.items) (items_view (drop l.item-index l.items)) ≡ spec.items_sets (map scratch_text l.initial.set.items) (items_view l.items)
