use Rattle.std.proofs.Common.{◌≡◌, ◌++◌, drop}
use Rattle.wm_ast.specs.Types.{run_types}
use Rattle.wm_valid.proofs.scope.locals.Given as goal

abbrev pub invariant-loop-run : goal.invariant-loop-run
invariant-loop-run l = l.types.items ++ run_types (drop l.run-index l.runs) ≡ l.params ++ run_types l.runs
