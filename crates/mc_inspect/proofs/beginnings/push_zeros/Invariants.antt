use Rattle.std.proofs.Common.{◌≡◌, ◌++◌, drop, filter_map}
use Rattle.wm_ast.specs.Store.{zero_of}
use Rattle.mc_inspect.proofs.beginnings.push_zeros.Given as goal

abbrev pub invariant-loop-kind : goal.invariant-loop-kind
invariant-loop-kind l = l.values.items ++ filter_map zero_of (drop l.kind-index l.kinds) ≡ l.initial.values.items ++ filter_map zero_of l.kinds
