use Rattle.std.proofs.Common.{◌≡◌, ◌+◌, ◌++◌, ◌-◌}
use Rattle.cc_call.specs.Frames.{save_acts}
use Rattle.cc_call.specs.View.{acts_view}
use Rattle.cc_call.proofs.call.push_saves.Given as goal

abbrev pub invariant-loop-place : goal.invariant-loop-place
invariant-loop-place l =
    acts_view l.acts.items ++ save_acts (0 + l.place) (l.count - l.place)
    ≡ acts_view l.initial.acts.items ++ save_acts 0 l.count
