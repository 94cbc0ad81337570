use Rattle.std.proofs.Common.{◌≡◌, drop, false}
use Rattle.cc_line.specs.View.{items_view}
use Rattle.cc_tails.specs.Tails.{ends_trapped}
use Rattle.cc_tails.proofs.traps.ends_trapped.Given as goal

abbrev pub invariant-loop-item : goal.invariant-loop-item
invariant-loop-item l = ends_trapped l.trapped (items_view (drop l.item-index l.items)) ≡ ends_trapped false (items_view l.items)
