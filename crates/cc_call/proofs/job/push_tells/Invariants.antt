use Rattle.std.proofs.Common.{◌≡◌, ◌+◌, ◌++◌, ◌-◌}
use Rattle.cc_call.specs.Frames.{tell_acts}
use Rattle.cc_call.specs.View.{acts_view}
use Rattle.cc_call.proofs.job.push_tells.Given as goal

abbrev pub invariant-loop-index : goal.invariant-loop-index
invariant-loop-index l =
    acts_view l.acts.items ++ tell_acts (l.count - l.index) (0 + l.index)
    ≡ acts_view l.initial.acts.items ++ tell_acts l.count 0
