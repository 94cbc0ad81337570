use Rattle.std.proofs.Common.{◌≡◌, ◌++◌, drop}
use Rattle.wm_join.proofs.adding.add_limits.Given as goal

abbrev pub invariant-loop-size : goal.invariant-loop-size
invariant-loop-size l = l.found ++ drop l.size-index l.limits ≡ l.initial.found ++ l.limits
