use Rattle.std.proofs.Common.{◌≡◌, length}
use Rattle.wm_ast.specs.Configuration.{after_values, items_of}
use Rattle.wm_ast.specs.View.{code_of}
use Rattle.wm_reduce.proofs.calls.skip_constants.Given as goal

abbrev pub invariant-loop-rest : goal.invariant-loop-rest
invariant-loop-rest l =
    after_values l.values (items_of (code_of l.rest)) ≡ after_values l.initial.values (items_of (code_of l.code))

abbrev pub decreases-loop-rest : goal.decreases-loop-rest
decreases-loop-rest l = length l.rest
