use Rattle.std.proofs.Common.{◌≡◌, ◌+◌, List, length, Some, refl, sym, ap, subst, ◌∙◌}
use Rattle.std.specs.Prelude.{slice_get}
use Rattle.std.proofs.lemmas.Option.{slice_get_read}
use Rattle.wm_ast.specs.declared.module.Import.{Import}
use Rattle.wm_match.specs.declared.library.Binding.{Binding}
use Rattle.wm_match.specs.Cause.{program, AreBoundTo}
use Rattle.wm_match.proofs.BindLaws.{bound_more}
use Rattle.wm_match.proofs.binding.bind_module.Goals as goal

pub loop-n-preserved : goal.loop-n-preserved
loop-n-preserved c =
    let p = program c.args.libs.now c.args.main.now c.args.done.now in
    let is = c.as_slice-import-items.result.now in
    let at : slice_get c.args.m.now.imports c.loop-n.n ≡ Some c.import-item.result =
    ap (λ (xs : List Import). slice_get xs c.loop-n.n) (sym c.as_slice-import-items.ensures)
    ∙ slice_get_read is (length is) c.loop-n.n c.import-item.result refl c.loop-n-test.true c.import-item.is in
    record {
      items = c.as_slice-import-items.ensures;
      part = subst (λ (bs : List Binding). AreBoundTo c.args.libs.now c.args.main.now p c.args.k (c.loop-n.n + 1) c.args.m.now bs) (sym c.in_ok-push-in-Bound.ensures.items)
          (bound_more c.args.libs.now c.args.main.now p c.args.k c.loop-n.n c.args.m.now c.loop-n.part.items c.import-item.result c.in-Bound.binding
          at c.in-Bound.ensures c.loop-n.invariant.part);
    }
