use Rattle.std.proofs.Common.{◌≡◌, ◌++◌, drop, filter_map}
use Rattle.wm_ast.specs.Store.{zero_of}
use Rattle.wm_ast.specs.Types.{run_types}
use Rattle.wm_reduce.proofs.function.add_zeros.Given as goal

abbrev pub invariant-loop-run : goal.invariant-loop-run
invariant-loop-run l =
    l.locals.items ++ filter_map zero_of (run_types (drop l.run-index l.runs))
    ≡ l.initial.locals.items ++ filter_map zero_of (run_types l.runs)
