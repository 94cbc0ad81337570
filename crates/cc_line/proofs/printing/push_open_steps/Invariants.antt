use Rattle.std.proofs.Common.{◌≡◌, ◌++◌, drop}
use Rattle.cc_line.specs.OpenStep.{open_texts}
use Rattle.cc_line.specs.View.{open_steps_view}
use Rattle.cc_line.proofs.printing.push_open_steps.Given as goal

abbrev pub invariant-loop-step : goal.invariant-loop-step
invariant-loop-step l = l.lines ++ open_texts l.ns (open_steps_view (drop l.step-index l.steps)) ≡ l.initial.lines ++ open_texts l.ns (open_steps_view l.steps)
