use Rattle.std.proofs.Common.{◌≡◌}
use Rattle.cc_line.specs.Item.{join}
use Rattle.cc_line.specs.View.{items_view}
use Rattle.cc_init.specs.steps.Instantiating.{appending_acts}
use Rattle.cc_init.proofs.GlobalLemmas.{alone, left_acts}
use Rattle.cc_init.proofs.instantiation.push_globals.Given as goal

abbrev pub invariant-loop-index : goal.invariant-loop-index
invariant-loop-index l =
    join (items_view l.items.items) (alone (left_acts l.values l.from l.index))
    ≡ join (items_view l.fn.items.items) (alone (appending_acts l.values l.fn.before))
