use Rattle.std.proofs.Common.{◌≡◌, ◌≤◌, ◌+◌, drop}
use Rattle.wm_ast.specs.Part.{locals_count}
use Rattle.wm_profile.specs.steps.Counted.{told}
use Rattle.wm_profile.proofs.limits.locals_count.Given as goal

abbrev pub invariant-loop-run : goal.invariant-loop-run
invariant-loop-run l = record {
  fits : l.total ≤ 18446744073709551615;
  same : told (l.total + locals_count (drop l.run-index l.runs)) ≡ told (locals_count l.runs);
}
