use Rattle.std.proofs.Common.{◌≡◌, ◌+◌, ◌++◌, ◌-◌}
use Rattle.cc_call.specs.Fetch.{fetch_acts}
use Rattle.cc_call.specs.View.{acts_view}
use Rattle.cc_call.proofs.fetch.fetch_arguments.Given as goal

abbrev pub invariant-loop-index : goal.invariant-loop-index
invariant-loop-index l =
    acts_view l.acts.items ++ fetch_acts (l.from + l.index) (l.to + l.index) (l.count - l.index)
    ≡ acts_view l.initial.acts.items ++ fetch_acts l.from l.to l.count
