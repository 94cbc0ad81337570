use Rattle.std.proofs.Common.{◌≡◌, ◌++◌, take}
use Rattle.cc_line.specs.View.{steps_view}
use Rattle.cc_pieces.specs.View.{list_view}
use Rattle.cc_pieces.specs.Lists.{steps_list}
use Rattle.cc_pieces.proofs.items.push_steps.Given as goal

abbrev pub invariant-loop-step : goal.invariant-loop-step
invariant-loop-step l = list_view l.items.items ≡ list_view l.initial.items.items ++ steps_list (steps_view (take l.step-index l.steps))
