use Rattle.std.proofs.Common.{◌≡◌, ◌++◌, ◌∙◌, List, true, ap, subst, sym, Bor}
use Rattle.std.specs.Prelude.{MatchOption}
use Rattle.wm_ast.specs.declared.module.ValType.{ValType}
use Rattle.wm_ast.specs.Types.{same_types}
use Rattle.wm_ast.proofs.TypeLaws.{same_types_is}
use Rattle.pk_callers.proofs.CallerFound.{kinds_differ, kinds_found}
use Rattle.pk_callers.proofs.caller.kinds_under.Goals as goal

pub returns-then-are_same : goal.returns-then-are_same
returns-then-are_same c =
    let gives = c.args.gives.now in
    let same : same_types c.in-Some.call.results gives ≡ true = ap (λ ts. same_types ts gives) (sym c.as_slice.ensures) ∙ (sym c.are_same.ensures ∙ c.if-are_same.true) in
    kinds_found (λ (t : Bor (List ValType)). t.now) c.args.spot.now.call c.in-Some.call c.args.spot.now.kinds gives c.in-Some.is (same_types_is _ _ same) c.below.result
    (subst (λ (ks : List ValType). MatchOption c.below.result ((ts : List ValType) → ks ≡ ts ++ gives → ⊥) (λ a. ks ≡ a.now ++ gives)) c.as_slice-then-are_same.ensures c.below.ensures)

pub returns-else-are_same : goal.returns-else-are_same
returns-else-are_same c =
    let gives = c.args.gives.now in
    kinds_differ c.args.spot.now.call c.in-Some.call c.args.spot.now.kinds gives c.in-Some.is
    (sym c.if-are_same.false ∙ c.are_same.ensures ∙ ap (λ ts. same_types ts gives) c.as_slice.ensures)
