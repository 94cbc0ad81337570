use Rattle.std.proofs.Common.{◌≡◌}
use Rattle.wm_match.specs.Cause.{program}
use Rattle.wm_join.specs.steps.Parts.{joined_before}
use Rattle.wm_join.proofs.joining.join_libraries.Given as goal

abbrev pub invariant-loop-k : goal.invariant-loop-k
invariant-loop-k l = l.joined ≡ joined_before (program l.libs l.main l.bindings) l.k
