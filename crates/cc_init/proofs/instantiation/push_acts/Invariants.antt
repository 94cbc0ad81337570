use Rattle.std.proofs.Common.{◌≡◌, take}
use Rattle.cc_line.specs.Item.{join}
use Rattle.cc_line.specs.View.{items_view}
use Rattle.cc_call.specs.View.{acts_view}
use Rattle.cc_init.proofs.GlobalLemmas.{alone}
use Rattle.cc_init.proofs.instantiation.push_acts.Given as goal

abbrev pub invariant-loop-act : goal.invariant-loop-act
invariant-loop-act l = items_view l.items.items ≡ join (items_view l.initial.items.items) (alone (acts_view (take l.act-index l.acts)))
