-- Types of functions that are compared as they are written.
use Rattle.std.proofs.Common.{◌≡◌, ◌↔◌, true, false, sym, ap, ◌∙◌}
use Rattle.std.specs.Prelude.{IsTrue}
use Rattle.wm_ast.specs.declared.module.FuncType.{FuncType}
use Rattle.wm_ast.specs.Types.{same_types}
use Rattle.wm_ast.proofs.TypeLaws.{same_types_is, same_types_self}

module _ (t u : FuncType) where
  pub params_differ : same_types t.params u.params ≡ false → t ≡ u → ⊥
  params_differ e s = let h : same_types t.params u.params ≡ true = ap (λ (z : FuncType). same_types t.params z.params) (sym s) ∙ same_types_self t.params in cc

  pub same_by_results : same_types t.params u.params ≡ true → IsTrue (same_types t.results u.results) ↔ (t ≡ u)
  same_by_results p = (forth, back)
    where
      forth : IsTrue (same_types t.results u.results) → t ≡ u
      forth r =
          let a = same_types_is t.params u.params p in
          let b = same_types_is t.results u.results r in
          λ i. record { params = a i; results = b i }

      back : t ≡ u → IsTrue (same_types t.results u.results)
      back s = ap (λ (z : FuncType). same_types t.results z.results) (sym s) ∙ same_types_self t.results
