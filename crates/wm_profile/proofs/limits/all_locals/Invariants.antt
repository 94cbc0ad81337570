use Rattle.std.proofs.Common.{◌≡◌, ◌≤◌, ◌+◌, sum, map, drop}
use Rattle.wm_ast.specs.Profile.{function_locals}
use Rattle.wm_profile.specs.steps.Counted.{told}
use Rattle.wm_profile.proofs.limits.all_locals.Given as goal

abbrev pub invariant-loop-func : goal.invariant-loop-func
invariant-loop-func l = record {
  fits : l.total ≤ 18446744073709551615;
  same : told (l.total + sum (map (function_locals l.m) (drop l.func-index l.m.funcs))) ≡ told (sum (map (function_locals l.m) l.m.funcs));
}
