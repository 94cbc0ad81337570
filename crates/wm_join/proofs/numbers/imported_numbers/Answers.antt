use Rattle.std.proofs.Common.{ℕ, ◌∷◌, [], ◌++◌, length, map, get_or, ◌<◌, true, false, sym, ap, ◌∙◌, arith}
use Rattle.std.proofs.lemmas.Option.{slice_get-get_or, get_or_from_slice_get}
use Rattle.wm_match.specs.declared.library.Binding.{Binding}
use Rattle.wm_match.specs.Space.{imported_items}
use Rattle.wm_join.specs.steps.Places.{binding_number}
use Rattle.wm_join.proofs.NumberLaws.{import_more}
use Rattle.wm_join.proofs.numbers.imported_numbers.Goals as goal
use Rattle.wm_join.proofs.numbers.imported_numbers.Goals.{then-is_in+in_ok-push, else-is_in}

pub loop-n-preserved : goal.loop-n-preserved
loop-n-preserved c =
    let f = binding_number c.args.counts.now in
    let found = c.loop-n.found.items in
    let all = map f (imported_items c.args.space c.args.imports.now c.args.part.now) in
    let lt : c.loop-n.n < length c.args.part.now = omega arith in
    let x : Binding = get_or c.args.part.now c.loop-n.n (record { «module» = 0; index = 0 }) in
    let read = sym (get_or_from_slice_get c.args.part.now c.loop-n.n x x (slice_get-get_or c.args.part.now c.loop-n.n (record { «module» = 0; index = 0 }) lt)) in
    elim c.if-is_in.branch [
      | then-is_in+in_ok-push w ↦
          import_more f c.args.space found c.if-is_in.found.items all c.args.imports.now c.args.part.now c.loop-n.n c.index-imports-n.result x true
          c.loop-n-test.true lt c.index-imports-n.is read w.if-is_in.ensures
          (ap (λ (v : _). v.items) w.found-is ∙ w.in_ok-push.ensures.items ∙ ap (λ (n : ℕ). found ++ n ∷ []) w.item_number.ensures) c.loop-n.invariant
      | else-is_in w ↦
          import_more f c.args.space found c.if-is_in.found.items all c.args.imports.now c.args.part.now c.loop-n.n c.index-imports-n.result x false
          c.loop-n-test.true lt c.index-imports-n.is read w.if-is_in.ensures (ap (λ (v : _). v.items) w.found-is) c.loop-n.invariant
    ]
