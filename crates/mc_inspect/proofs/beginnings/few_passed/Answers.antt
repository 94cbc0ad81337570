use Rattle.std.proofs.Common.{subst, ℕ}
use Rattle.pk_sight.proofs.ShownLemmas.{told_none, told_some}
use Rattle.mc_inspect.specs.steps.Openings.{IsBegun, IsBegunNot}
use Rattle.mc_inspect.proofs.Opening.{few_answer, few_unbegun}
use Rattle.mc_inspect.proofs.beginnings.few_passed.Goals as goal

pub returns-in-None : goal.returns-in-None
returns-in-None c =
    few_unbegun c.args.m.now c.args.reading.now c.args.func c.args.spot.now c.args.ty.now
    (subst (λ (n : ℕ). IsBegunNot c.args.spot.now n c.args.reading.now.places.items) c.len.ensures
    (subst (IsBegunNot c.args.spot.now c.len.result) c.as_slice-places.ensures.value (told_none _ _ _ c.in-None.is c.in_ok-frame.ensures)))

pub returns-in-Some : goal.returns-in-Some
returns-in-Some c =
    few_answer c.args.m.now c.args.reading.now c.args.func c.args.spot.now c.args.ty.now c.in-Some.frame
    (subst (λ (n : ℕ). IsBegun c.args.func c.args.spot.now n c.args.reading.now.places.items c.in-Some.frame) c.len.ensures
    (subst (λ zs. IsBegun c.args.func c.args.spot.now c.len.result zs c.in-Some.frame) c.as_slice-places.ensures.value
    (told_some _ _ _ _ c.in-Some.is c.in_ok-frame.ensures)))
    c.with_callers.result c.with_callers.ensures
