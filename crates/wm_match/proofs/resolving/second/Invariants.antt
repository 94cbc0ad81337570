use Rattle.std.proofs.Common.{◌≡◌, ℕ, ◌<◌, ◌≤◌, take}
use Rattle.wm_match.specs.Binds.{defined}
use Rattle.wm_match.specs.Cause.{DefinesSecond}
use Rattle.wm_match.specs.Program.{modules_of}
use Rattle.wm_match.proofs.resolving.second.Given as goal

abbrev pub invariant-loop-k : goal.invariant-loop-k
invariant-loop-k l = record {
  count : l.earlier ≡ defined l.space (take l.k (modules_of l.libs l.main));
  few : l.earlier ≤ 1;
  none : (j : ℕ) → j < l.k → DefinesSecond l.libs l.main l.space j → ⊥;
}
