use Rattle.std.proofs.Common.{◌≡◌, ◌+◌, ◌++◌, ◌-◌}
use Rattle.cc_call.specs.View.{acts_view}
use Rattle.cc_body.specs.Emit.{global_get_acts}
use Rattle.cc_body.proofs.global.push_gets.Given as goal

abbrev pub invariant-loop-index : goal.invariant-loop-index
invariant-loop-index l =
    acts_view l.acts.items ++ global_get_acts l.global (0 + l.index) (l.count - l.index) (l.to + l.index)
    ≡ acts_view l.initial.acts.items ++ global_get_acts l.global 0 l.count l.to
