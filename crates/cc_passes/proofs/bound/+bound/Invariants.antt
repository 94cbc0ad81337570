use Rattle.std.proofs.Common.{◌≡◌, drop}
use Rattle.cc_line.specs.View.{items_view}
use Rattle.cc_passes.specs.Bound.{greater, items_bound}
use Rattle.cc_passes.proofs.bound.+bound.Given as goal

abbrev pub invariant-items_bound-loop-item : goal.invariant-items_bound-loop-item
invariant-items_bound-loop-item l = greater l.bound (items_bound l.func l.heights (items_view (drop l.item-index l.items))) ≡ items_bound l.func l.heights (items_view l.items)
