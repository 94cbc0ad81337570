use Rattle.std.proofs.Common.{◌≡◌, ◌+◌, drop}
use Rattle.std.specs.Prelude.{pos}
use Rattle.cc_line.specs.OpenStep.{steps_with}
use Rattle.cc_line.specs.Step.{steps_weight}
use Rattle.cc_line.specs.View.{open_steps_view}
use Rattle.cc_line.proofs.weight.weight_of_open_steps.Given as goal

abbrev pub invariant-loop-step : goal.invariant-loop-step
invariant-loop-step l = l.total + steps_weight (steps_with (λ k. pos 0) (open_steps_view (drop l.step-index l.steps))) ≡ steps_weight (steps_with (λ k. pos 0) (open_steps_view l.steps))
