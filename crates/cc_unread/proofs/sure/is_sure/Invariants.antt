use Rattle.std.proofs.Common.{◌≡◌, drop, map}
use Rattle.cc_line.specs.View.{items_view, scratch_text}
use Rattle.cc_unread.specs.Sure as spec
use Rattle.cc_unread.proofs.sure.is_sure.Given as goal

abbrev pub invariant-loop-item : goal.invariant-loop-item
invariant-loop-item l = spec.are_sure (map scratch_text l.set.items) (items_view (drop l.item-index l.items)) ≡ spec.is_sure (items_view l.items)
