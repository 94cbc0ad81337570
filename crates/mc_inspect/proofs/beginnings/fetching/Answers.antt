use Rattle.std.proofs.Common.{refl, sym, ap, ◌∙◌}
use Rattle.std.specs.Prelude.{option_copied}
use Rattle.pk_sight.proofs.ShownLemmas.{told_none, told_some}
use Rattle.mc_inspect.specs.steps.Openings.{type_at}
use Rattle.mc_inspect.proofs.Fetching.{no_cut_fetches, no_type_fetches, nothing_begins, unpassed_fetches}
use Rattle.mc_inspect.proofs.Looking.{mapped}
use Rattle.mc_inspect.proofs.beginnings.fetching.Goals as goal

pub returns-in_default : goal.returns-in_default
returns-in_default c y at divides =
    nothing_begins c.args.m.now c.args.reading.now c.args.caller c.args.index c.args.count c.requires.few y at divides
    (told_none _ _ _ c.in_default.is c.beginning.ensures)

pub returns-in_default-type_of : goal.returns-in_default-type_of
returns-in_default-type_of c y at divides =
    no_type_fetches c.args.m.now c.args.reading.now c.args.caller c.args.index c.args.count c.requires.few y at divides c.in-Some.func
    (told_some _ _ _ _ c.in-Some.is c.beginning.ensures)
    (ap (λ k. type_at k c.in-Some.func) (sym c.module.ensures.same) ∙ sym c.type_of.ensures ∙ ap option_copied c.in_default-type_of.is)

pub returns-in_default-2 : goal.returns-in_default-2
returns-in_default-2 c y at divides =
    no_cut_fetches c.args.m.now c.args.reading.now c.args.caller c.args.index c.args.count c.requires.few y at divides c.in-Some.func
    (told_some _ _ _ _ c.in-Some.is c.beginning.ensures) (told_none _ _ _ c.in_default-2.is c.in_ok-spot.ensures)

pub returns-in-Some-3 : goal.returns-in-Some-3
returns-in-Some-3 c =
    mapped c.fetching_for.result _ _
    (λ o h y at divides.
    h c.args.caller c.args.index c.args.count (told_some _ _ _ _ c.in-Some-2.is c.in_ok-spot.ensures)
    (ap (λ k. type_at k c.in-Some.func) (sym c.module.ensures.same) ∙ sym c.type_of.ensures ∙ ap option_copied c.in-Some-type_of.is)
    (told_some _ _ _ _ c.in-Some.is c.beginning.ensures) (told_some _ _ _ _ c.in-Some-3.is c.in_ok-call.ensures) refl c.requires.few y at divides)
    c.fetching_for.ensures

pub returns : goal.returns
returns c y at divides =
    unpassed_fetches c.args.m.now c.args.reading.now c.args.caller c.args.index c.args.count c.requires.few y at divides c.in-Some.func
    (told_some _ _ _ _ c.in-Some.is c.beginning.ensures) c.in-Some-type_of.ty.now
    (ap (λ k. type_at k c.in-Some.func) (sym c.module.ensures.same) ∙ sym c.type_of.ensures ∙ ap option_copied c.in-Some-type_of.is)
    (told_none _ _ _ c.in-None.is c.in_ok-call.ensures)
