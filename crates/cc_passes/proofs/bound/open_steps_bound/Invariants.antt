use Rattle.std.proofs.Common.{◌≡◌, drop}
use Rattle.cc_line.specs.View.{open_steps_view}
use Rattle.cc_passes.specs.Bound.{greater, open_steps_bound}
use Rattle.cc_passes.proofs.bound.open_steps_bound.Given as goal

abbrev pub invariant-loop-step : goal.invariant-loop-step
invariant-loop-step l = greater l.bound (open_steps_bound l.func l.heights (open_steps_view (drop l.step-index l.steps))) ≡ open_steps_bound l.func l.heights (open_steps_view l.steps)
