use Rattle.wm_match.specs.Binds.{HasNoStart}
use Rattle.wm_match.specs.steps.Checking.{Before}
use Rattle.wm_match.proofs.resolving.check_starts.Given as goal

abbrev pub invariant-loop-k : goal.invariant-loop-k
invariant-loop-k l = Before HasNoStart l.libs l.k
