use Rattle.std.proofs.Common.{◌≡◌, ◌+◌, ◌++◌, ◌-◌}
use Rattle.cc_body.specs.Emit.{carry_acts}
use Rattle.cc_call.specs.View.{acts_view}
use Rattle.cc_body.proofs.act.push_carry.Given as goal

abbrev pub invariant-loop-index : goal.invariant-loop-index
invariant-loop-index l =
    acts_view l.acts.items ++ carry_acts (l.count - l.index) (l.from + l.index) (l.to + l.index)
    ≡ acts_view l.initial.acts.items ++ carry_acts l.count l.from l.to
