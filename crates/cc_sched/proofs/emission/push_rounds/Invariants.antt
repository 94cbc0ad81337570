use Rattle.std.proofs.Common.{◌≡◌, ◌++◌, ◌-◌}
use Rattle.cc_sched.specs.Sched.{rounds_texts}
use Rattle.cc_sched.proofs.emission.push_rounds.Given as goal

abbrev pub invariant-loop-round : goal.invariant-loop-round
invariant-loop-round l = l.lines ++ rounds_texts l.ns (8 - l._round) ≡ l.initial.lines ++ rounds_texts l.ns 8
