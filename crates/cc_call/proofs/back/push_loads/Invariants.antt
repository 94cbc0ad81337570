use Rattle.std.proofs.Common.{◌≡◌, ◌+◌, ◌++◌, ◌-◌}
use Rattle.cc_call.specs.Frames.{load_acts}
use Rattle.cc_call.specs.View.{acts_view}
use Rattle.cc_call.proofs.back.push_loads.Given as goal

abbrev pub invariant-loop-place : goal.invariant-loop-place
invariant-loop-place l =
    acts_view l.acts.items ++ load_acts (0 + l.place) (l.count - l.place)
    ≡ acts_view l.initial.acts.items ++ load_acts 0 l.count
