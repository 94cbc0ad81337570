use Rattle.std.proofs.Common.{◌≡◌, ◌++◌, map, drop}
use Rattle.wm_join.specs.steps.Parts.{function_with}
use Rattle.wm_join.proofs.adding.add_functions.Given as goal

abbrev pub invariant-loop-func : goal.invariant-loop-func
invariant-loop-func l = l.found ++ map (function_with l.numbers) (drop l.func-index l.funcs) ≡ l.initial.found ++ map (function_with l.numbers) l.funcs
