use Rattle.std.proofs.Common.{◌≡◌, drop}
use Rattle.std.specs.Prelude.{◌||◌}
use Rattle.cc_line.specs.View.{items_view}
use Rattle.cc_tails.specs.Tails.{items_trap}
use Rattle.cc_tails.proofs.traps.+traps.Given as goal

abbrev pub invariant-items_trap-loop-item : goal.invariant-items_trap-loop-item
invariant-items_trap-loop-item l = l.traps || items_trap (items_view (drop l.item-index l.items)) ≡ items_trap (items_view l.items)
