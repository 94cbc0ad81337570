use Rattle.std.proofs.Common.{◌≡◌, ◌+◌, ◌<◌, List, arith, refl, sym, ◌∙◌, ap, subst, length, get_or, Some}
use Rattle.std.specs.Prelude.{ℕ, slice_get}
use Rattle.std.proofs.lemmas.Option.{slice_get_read}
use Rattle.wm_ast.specs.declared.module.Func.{Func}
use Rattle.wm_valid.specs.Checked.{AreHeights}
use Rattle.wm_valid.proofs.ProfileLaws.{is_short}
use Rattle.wm_valid.proofs.TypedLaws.{one_height, first_high}
use Rattle.wm_valid.proofs.validation.heights.Goals as goal

-- the function stands in the module
at_index : (fs items : List Func) (i : ℕ) (f : Func) → i < length items → items ≡ fs → f ≡ get_or items i f → slice_get fs i ≡ Some f
at_index fs items i f short same is = slice_get_read fs (length fs) i f refl (omega (arith, ap length same)) (is ∙ ap (λ (l : List Func). get_or l i f) same)

pub height-requires-clause-typed : goal.height-requires-clause-typed
height-requires-clause-typed c = c.requires.valid.bodies c.loop-func.func c.f-item.result (at_index c.args.m.now.funcs c.as_slice-f-items.result.now c.loop-func.func c.f-item.result (omega arith) c.loop-func.invariant.items c.f-item.is)

pub height-requires-clause-short : goal.height-requires-clause-short
height-requires-clause-short c = is_short c.args.m.now c.loop-func.func c.f-item.result c.requires.in_profile (at_index c.args.m.now.funcs c.as_slice-f-items.result.now c.loop-func.func c.f-item.result (omega arith) c.loop-func.invariant.items c.f-item.is)

pub returns-then-found-clause-cause : goal.returns-then-found-clause-cause
returns-then-found-clause-cause c =
    let at : slice_get c.args.m.now.funcs c.loop-func.func ≡ Some c.f-item.result = at_index c.args.m.now.funcs c.as_slice-f-items.result.now c.loop-func.func c.f-item.result (omega arith) c.loop-func.invariant.items c.f-item.is in
    (c.requires.valid, first_high c.args.m.now c.loop-func.func c.loop-func.heights.items c.f-item.result c.in_ok-found.found at c.in_ok-found.ensures (omega arith) c.loop-func.invariant.so_far)

pub loop-func-preserved : goal.loop-func-preserved
loop-func-preserved c =
    let at : slice_get c.args.m.now.funcs c.loop-func.func ≡ Some c.f-item.result = at_index c.args.m.now.funcs c.as_slice-f-items.result.now c.loop-func.func c.f-item.result (omega arith) c.loop-func.invariant.items c.f-item.is in
    record {
      items = c.loop-func.invariant.items;
      so_far = subst (λ (hs : List ℕ). AreHeights c.args.m.now (c.loop-func.func + 1) hs) (sym c.in_ok-push.ensures.items)
          (one_height c.args.m.now c.loop-func.func c.loop-func.heights.items c.f-item.result c.in_ok-found.found at c.in_ok-found.ensures (omega arith) c.loop-func.invariant.so_far);
    }
