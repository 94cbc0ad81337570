use Rattle.std.proofs.Common.{◌≡◌, ◌-◌}
use Rattle.cc_line.specs.Item.{join, no_more}
use Rattle.cc_line.specs.Place.{score_places}
use Rattle.cc_line.specs.View.{items_view}
use Rattle.cc_call.specs.Acts.{acts_then}
use Rattle.cc_init.specs.Init.{open_acts}
use Rattle.cc_init.proofs.instantiation.push_places.Given as goal

abbrev pub invariant-loop-place : goal.invariant-loop-place
invariant-loop-place l =
    join (items_view l.items.items) (acts_then (open_acts l.place (128 - l.place)) no_more)
    ≡ join (items_view l.initial.items.items) (acts_then (open_acts 0 score_places) no_more)
