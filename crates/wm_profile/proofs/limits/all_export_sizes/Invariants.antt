use Rattle.std.proofs.Common.{◌≡◌, ◌≤◌, ◌+◌, sum, map, drop}
use Rattle.wm_ast.specs.Profile.{export_size}
use Rattle.wm_profile.specs.steps.Counted.{told}
use Rattle.wm_profile.proofs.limits.all_export_sizes.Given as goal

abbrev pub invariant-loop-export : goal.invariant-loop-export
invariant-loop-export l = record {
  fits : l.total ≤ 18446744073709551615;
  same : told (l.total + sum (map (export_size l.m) (drop l.export-index l.m.exports))) ≡ told (sum (map (export_size l.m) l.m.exports));
}
