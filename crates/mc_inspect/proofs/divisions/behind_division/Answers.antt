use Rattle.std.specs.Prelude.{Ok}
use Rattle.std.proofs.Common.{ℤ, FitsSigned, of_z, to_z, w64, rules, subst, sym, ◌∙◌}
use Rattle.std.proofs.lemmas.Int.{to_z-of_z}
use Rattle.cc_div64.specs.Law.{Dividing}
use Rattle.pk_sight.proofs.ShownLemmas.{told_none, told_some}
use Rattle.mc_inspect.proofs.Divided.{divided_answer, no_answer, no_long}
use Rattle.mc_inspect.proofs.Looking.{mapped}
use Rattle.mc_inspect.proofs.divisions.behind_division.Goals as goal

pub returns-in_default : goal.returns-in_default
returns-in_default c index l s d few told =
    no_long c.args.m.now c.args.reading.now c.args.func index l c.args.spot.now s c.args.op d c.args.left told
    (λ ts e. told_none _ _ _ c.in_default.is c.under_long.ensures ts (c.as_slice.ensures ∙ e))

pub held-requires : goal.held-requires
held-requires c = sym c.as_slice.ensures ∙ told_some _ _ _ _ c.in-Some.is c.under_long.ensures

pub returns-in-None : goal.returns-in-None
returns-in-None c index l s d few told =
    no_answer c.args.m.now c.args.reading.now c.args.func index l c.args.spot.now s c.args.op d c.args.left told
    (λ p h. told_none _ _ _ c.in-None.is (c.answer.ensures p h))

pub returns-in-Some-answer : goal.returns-in-Some-answer
returns-in-Some-answer c =
    let z : ℤ = c.in-Some-answer.z in
    let fits : FitsSigned w64 z = search rules in
    mapped c.held.result _ _
    (λ o h index l s d few told.
    divided_answer c.args.m.now c.args.reading.now c.args.func index l c.args.spot.now s c.args.op d c.args.left told few (to_z w64 (of_z w64 z))
    (λ p k. subst (λ y. Dividing c.args.op y c.args.left p) (sym (to_z-of_z w64 z fits)) (told_some _ _ _ _ c.in-Some-answer.is (c.answer.ensures p k))) (Ok o) h)
    c.held.ensures
