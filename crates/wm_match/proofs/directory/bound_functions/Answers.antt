use Rattle.std.proofs.Common.{◌+◌, ◌<◌, length, get_or, sym, ap, subst, ◌∙◌, arith}
use Rattle.std.proofs.lemmas.Option.{slice_get-get_or, get_or_from_slice_get}
use Rattle.wm_match.specs.declared.library.Binding.{Binding}
use Rattle.wm_match.proofs.DirectoryLaws.{FunctionsFrom, function_more, function_passed}
use Rattle.wm_match.proofs.directory.bound_functions.Goals as goal
use Rattle.wm_match.proofs.directory.bound_functions.Goals.{then-is_in+in_ok-push, else-is_in}

pub loop-n-preserved : goal.loop-n-preserved
loop-n-preserved c =
    let lt : c.loop-n.n < length c.args.part.now = omega arith in
    let x : Binding = get_or c.args.part.now c.loop-n.n (record { «module» = 0; index = 0 }) in
    let read = sym (get_or_from_slice_get c.args.part.now c.loop-n.n x x (slice_get-get_or c.args.part.now c.loop-n.n (record { «module» = 0; index = 0 }) lt)) in
    elim c.if-is_in.branch [
      | then-is_in+in_ok-push w ↦
          subst (FunctionsFrom c.args.imports.now c.args.part.now (c.loop-n.n + 1)) (sym (ap (λ (v : _). v.items) w.functions-is ∙ w.in_ok-push.ensures.items))
          (function_more c.args.imports.now c.args.part.now c.loop-n.n c.index-imports-n.result x c.loop-n.functions.items
          c.loop-n-test.true lt c.index-imports-n.is read w.if-is_in.ensures c.loop-n.invariant)
      | else-is_in w ↦
          subst (FunctionsFrom c.args.imports.now c.args.part.now (c.loop-n.n + 1)) (sym (ap (λ (v : _). v.items) w.functions-is))
          (function_passed c.args.imports.now c.args.part.now c.loop-n.n c.index-imports-n.result x c.loop-n.functions.items
          c.loop-n-test.true lt c.index-imports-n.is read w.if-is_in.ensures c.loop-n.invariant)
    ]
