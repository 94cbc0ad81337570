use Rattle.std.proofs.Common.{◌≡◌, ◌+◌, ◌++◌, ◌-◌}
use Rattle.cc_call.specs.View.{acts_view}
use Rattle.cc_body.specs.Emit.{global_set_acts}
use Rattle.cc_body.proofs.global.push_sets.Given as goal

abbrev pub invariant-loop-index : goal.invariant-loop-index
invariant-loop-index l =
    acts_view l.acts.items ++ global_set_acts l.global (0 + l.index) (l.count - l.index) (l.from + l.index)
    ≡ acts_view l.initial.acts.items ++ global_set_acts l.global 0 l.count l.from
