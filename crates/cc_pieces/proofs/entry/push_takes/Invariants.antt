use Rattle.std.proofs.Common.{◌≡◌, ◌+◌, ◌++◌, ◌-◌}
use Rattle.cc_pieces.specs.Entry.{take_args}
use Rattle.cc_call.specs.View.{acts_view}
use Rattle.cc_pieces.proofs.entry.push_takes.Given as goal

abbrev pub invariant-loop-index : goal.invariant-loop-index
invariant-loop-index l =
    acts_view l.acts.items ++ take_args (l.from + l.index) (l.count - l.index)
    ≡ acts_view l.initial.acts.items ++ take_args l.from l.count
