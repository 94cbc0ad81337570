use Rattle.std.proofs.Common.{◌≡◌, ◌≤◌, ◌+◌, sum, map, drop}
use Rattle.wm_ast.specs.Profile.{function_size}
use Rattle.wm_profile.specs.steps.Counted.{told}
use Rattle.wm_profile.proofs.limits.all_instructions.Given as goal

abbrev pub invariant-loop-func : goal.invariant-loop-func
invariant-loop-func l = record {
  fits : l.total ≤ 18446744073709551615;
  same : told (l.total + sum (map function_size (drop l.func-index l.m.funcs))) ≡ told (sum (map function_size l.m.funcs));
}
