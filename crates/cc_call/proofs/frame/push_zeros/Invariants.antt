use Rattle.std.proofs.Common.{◌≡◌, ◌+◌, ◌++◌, ◌-◌}
use Rattle.cc_call.specs.Frames.{zero_acts}
use Rattle.cc_call.specs.View.{acts_view}
use Rattle.cc_call.proofs.frame.push_zeros.Given as goal

abbrev pub invariant-loop-index : goal.invariant-loop-index
invariant-loop-index l =
    acts_view l.acts.items ++ zero_acts (l.from + l.index) (l.count - l.index)
    ≡ acts_view l.initial.acts.items ++ zero_acts l.from l.count
