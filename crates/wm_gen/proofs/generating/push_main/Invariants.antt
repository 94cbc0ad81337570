use Rattle.std.proofs.Common.{◌≡◌, ◌∷◌}
use Rattle.wm_ast.specs.View.{code_from}
use Rattle.wm_gen.specs.Shortest.{code_bytes}
use Rattle.wm_gen.specs.Workload.{i64, sums}
use Rattle.wm_gen.proofs.generating.push_main.Given as goal

abbrev pub invariant-loop-index : goal.invariant-loop-index
invariant-loop-index l = l.function.items ≡ 0 ∷ code_bytes (code_from (i64 0 ∷ sums 0 l.index))
