use Rattle.std.proofs.Common.{◌≡◌, drop}
use Rattle.cc_line.specs.View.{open_steps_view}
use Rattle.cc_names.specs.Names.{open_steps_speak}
use Rattle.cc_names.proofs.speaks.open_steps_speak.Given as goal

abbrev pub invariant-loop-step : goal.invariant-loop-step
invariant-loop-step l = open_steps_speak (open_steps_view (drop l.step-index l.steps)) ≡ open_steps_speak (open_steps_view l.steps)
