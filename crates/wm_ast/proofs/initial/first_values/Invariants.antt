use Rattle.std.proofs.Common.{◌≡◌, ◌++◌, drop, filter_map}
use Rattle.wm_ast.specs.Instance.{first_value}
use Rattle.wm_ast.proofs.initial.first_values.Given as goal

abbrev pub invariant-loop-global : goal.invariant-loop-global
invariant-loop-global l =
    l.values.items ++ filter_map first_value (drop l.global-index l.global-items) ≡ filter_map first_value l.fn.m.globals
