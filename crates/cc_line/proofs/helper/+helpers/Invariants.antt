use Rattle.std.proofs.Common.{◌≡◌, drop}
use Rattle.cc_line.specs.BlockView.{functions_view}
use Rattle.cc_line.specs.Helpers.{with_helpers}
use Rattle.cc_line.specs.Item.{items_helpers}
use Rattle.cc_line.specs.View.{items_view}
use Rattle.cc_line.proofs.helper.+helpers.Given as goal

abbrev pub invariant-add_helpers-loop-item : goal.invariant-add_helpers-loop-item
invariant-add_helpers-loop-item l = with_helpers (functions_view l.found) (items_helpers l.ns (items_view (drop l.item-index l.items))) ≡ with_helpers (functions_view l.initial.found) (items_helpers l.ns (items_view l.items))
