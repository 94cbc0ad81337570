use Rattle.std.proofs.Common.{◌≡◌, ◌++◌, ◌-◌}
use Rattle.wm_place.specs.Stop.{visit_told}
use Rattle.cc_body.specs.Emit.{copies_of_run}
use Rattle.cc_pieces.specs.View.{list_view}
use Rattle.cc_body.specs.steps.Emission.{copy_turn, turn_list}
use Rattle.cc_body.specs.steps.PieceBuilder.{ground}
use Rattle.cc_body.proofs.repeating.push_copies.Given as goal

abbrev pub invariant-loop : goal.invariant-loop
invariant-loop l =
    list_view l.items.items ++ turn_list (ground l.body) (visit_told l.stop) (copy_turn (ground l.body) (visit_told l.stop)) (copies_of_run - l.counter)
    ≡ list_view l.initial.items.items ++ turn_list (ground l.body) (visit_told l.stop) (copy_turn (ground l.body) (visit_told l.stop)) copies_of_run
