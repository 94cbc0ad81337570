use Rattle.std.proofs.Common.{◌≡◌, ◌+◌, ◌++◌, ◌-◌}
use Rattle.cc_call.specs.Frames.{take_acts}
use Rattle.cc_call.specs.View.{acts_view}
use Rattle.cc_call.proofs.back.push_takes.Given as goal

abbrev pub invariant-loop-index : goal.invariant-loop-index
invariant-loop-index l =
    acts_view l.acts.items ++ take_acts (l.count - l.index) (l.from + l.index) (0 + l.index)
    ≡ acts_view l.initial.acts.items ++ take_acts l.count l.from 0
