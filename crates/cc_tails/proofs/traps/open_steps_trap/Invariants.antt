use Rattle.std.proofs.Common.{◌≡◌, drop}
use Rattle.std.specs.Prelude.{◌||◌}
use Rattle.cc_line.specs.View.{open_steps_view}
use Rattle.cc_tails.specs.Tails.{open_steps_trap}
use Rattle.cc_tails.proofs.traps.open_steps_trap.Given as goal

abbrev pub invariant-loop-step : goal.invariant-loop-step
invariant-loop-step l = l.traps || open_steps_trap (open_steps_view (drop l.step-index l.steps)) ≡ open_steps_trap (open_steps_view l.steps)
