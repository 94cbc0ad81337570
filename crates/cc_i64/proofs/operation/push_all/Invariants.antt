use Rattle.std.proofs.Common.{◌≡◌, ◌++◌, drop}
use Rattle.cc_line.specs.View.{steps_view}
use Rattle.cc_i64.proofs.operation.push_all.Given as goal

abbrev pub invariant-loop-step : goal.invariant-loop-step
invariant-loop-step l = steps_view l.steps.items ++ steps_view (drop l.step-index l.added) ≡ steps_view l.initial.steps.items ++ steps_view l.added
