use Rattle.std.proofs.Common.{◌≡◌, ◌+◌, suc, drop}
use Rattle.cc_line.specs.View.{items_view}
use Rattle.cc_sched.specs.Charge.{exits}
use Rattle.cc_tails.proofs.weight.exits.Given as goal

abbrev pub invariant-loop-item : goal.invariant-loop-item
invariant-loop-item l = l.count + exits (items_view (drop l.item-index l.items)) ≡ suc (exits (items_view l.items))
