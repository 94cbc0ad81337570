use Rattle.std.proofs.Common.{◌≡◌, drop}
use Rattle.cc_line.specs.View.{items_view}
use Rattle.cc_passes.specs.Bound.{ends_bound, greater, stops_bound}
use Rattle.cc_passes.proofs.bound.piece_bounds.Given as goal

abbrev pub invariant-loop-item : goal.invariant-loop-item
invariant-loop-item l =
    (greater l.stops (stops_bound l.func l.heights l.now (items_view (drop l.item-index l.items))) ≡ stops_bound l.func l.heights l.fn.own (items_view l.items))
    × (ends_bound l.func l.heights l.now (items_view (drop l.item-index l.items)) ≡ ends_bound l.func l.heights l.fn.own (items_view l.items))
