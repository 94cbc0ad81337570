use Rattle.std.proofs.Common.{◌≡◌, ◌++◌, drop}
use Rattle.cc_line.specs.Step.{steps_texts}
use Rattle.cc_line.specs.View.{steps_view}
use Rattle.cc_sched.proofs.emission.push_printed.Given as goal

abbrev pub invariant-loop-step : goal.invariant-loop-step
invariant-loop-step l = l.lines ++ steps_texts l.ns (steps_view (drop l.step-index l.steps)) ≡ l.initial.lines ++ steps_texts l.ns (steps_view l.steps)
