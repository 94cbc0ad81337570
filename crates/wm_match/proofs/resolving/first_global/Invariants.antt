use Rattle.std.proofs.Common.{◌≡◌}
use Rattle.wm_match.specs.Binds.{IsNoGlobal}
use Rattle.wm_match.specs.steps.Checking.{Before}
use Rattle.wm_match.proofs.resolving.first_global.Given as goal

abbrev pub invariant-loop-n : goal.invariant-loop-n
invariant-loop-n l = record {
  items : l.import-items ≡ l.m.imports;
  none : Before IsNoGlobal l.m.imports l.n;
}
