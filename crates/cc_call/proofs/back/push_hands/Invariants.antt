use Rattle.std.proofs.Common.{◌≡◌, ◌+◌, ◌++◌, ◌-◌}
use Rattle.cc_call.specs.Frames.{hand_acts}
use Rattle.cc_call.specs.View.{acts_view}
use Rattle.cc_call.proofs.back.push_hands.Given as goal

abbrev pub invariant-loop-index : goal.invariant-loop-index
invariant-loop-index l =
    acts_view l.acts.items ++ hand_acts (l.count - l.index) (l.from + l.index) (0 + l.index)
    ≡ acts_view l.initial.acts.items ++ hand_acts l.count l.from 0
