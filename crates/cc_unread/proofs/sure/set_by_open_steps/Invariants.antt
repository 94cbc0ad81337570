use Rattle.std.proofs.Common.{◌≡◌, drop, map}
use Rattle.cc_line.specs.View.{open_steps_view, scratch_text}
use Rattle.cc_unread.specs.Sure as spec
use Rattle.cc_unread.proofs.sure.set_by_open_steps.Given as goal

abbrev pub invariant-loop-step : goal.invariant-loop-step
invariant-loop-step l = spec.open_steps_sets (map scratch_text l.set.items) (open_steps_view (drop l.step-index l.steps)) ≡ spec.open_steps_sets (map scratch_text l.initial.set.items) (open_steps_view l.steps)
