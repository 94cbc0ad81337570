use Rattle.wm_match.specs.Binds.{ImportsNoGlobal}
use Rattle.wm_match.specs.Program.{modules_of}
use Rattle.wm_match.specs.steps.Checking.{Before}
use Rattle.wm_match.proofs.resolving.check_globals.Given as goal

abbrev pub invariant-loop-k : goal.invariant-loop-k
invariant-loop-k l = Before ImportsNoGlobal (modules_of l.libs l.main) l.k
