use Rattle.std.proofs.Common.{ℕ, ◌<◌}
use Rattle.wm_match.specs.Cause.{HasSameName}
use Rattle.wm_match.proofs.resolving.check_names.Given as goal

abbrev pub invariant-loop-k : goal.invariant-loop-k
invariant-loop-k l = (j : ℕ) → j < l.k → HasSameName l.libs j → ⊥
