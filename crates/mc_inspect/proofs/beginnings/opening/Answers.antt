use Rattle.std.proofs.Common.{◌≡◌, sym, ap, ◌∙◌, arith}
use Rattle.std.specs.Prelude.{option_copied}
use Rattle.std.proofs.lemmas.Bool.{le-ltb, lt-ltb}
use Rattle.cc_cut.specs.Law.{widths}
use Rattle.cc_pieces.specs.Fetching.{most_passed}
use Rattle.pk_sight.proofs.ShownLemmas.{told_none, told_some}
use Rattle.mc_inspect.specs.steps.Openings.{type_at}
use Rattle.mc_inspect.proofs.Opening.{no_cut_opens, no_type_opens, tells_known}
use Rattle.mc_inspect.proofs.beginnings.opening.Goals as goal

pub returns-in_default : goal.returns-in_default
returns-in_default c =
    no_type_opens c.args.m.now c.args.reading.now c.args.func c.requires
    (ap (λ k. type_at k c.args.func) (sym c.module.ensures.same) ∙ sym c.type_of.ensures ∙ ap option_copied c.in_default.is)

pub returns-in_default-2 : goal.returns-in_default-2
returns-in_default-2 c =
    no_cut_opens c.args.m.now c.args.reading.now c.args.func c.requires (told_none _ _ _ c.in_default-2.is c.in_ok-spot.ensures)

pub returns-then-branch-gt-MOST_PASSED : goal.returns-then-branch-gt-MOST_PASSED
returns-then-branch-gt-MOST_PASSED c =
    let wide : c.in_ok-widths.field-0 ≡ widths c.in-Some.ty.now.params = c.in_ok-widths.ensures ∙ ap widths c.as_slice.ensures in
    tells_known c.args.m.now c.args.reading.now c.args.func c.in-Some-2.spot c.in-Some.ty.now _ (told_some _ _ _ _ c.in-Some-2.is c.in_ok-spot.ensures)
    (ap (λ k. type_at k c.args.func) (sym c.module.ensures.same) ∙ sym c.type_of.ensures ∙ ap option_copied c.in-Some.is)
    (lt-ltb most_passed (widths c.in-Some.ty.now.params) (omega arith)) c.many_passed.result c.many_passed.ensures

pub returns : goal.returns
returns c =
    let wide : c.in_ok-widths.field-0 ≡ widths c.in-Some.ty.now.params = c.in_ok-widths.ensures ∙ ap widths c.as_slice.ensures in
    tells_known c.args.m.now c.args.reading.now c.args.func c.in-Some-2.spot c.in-Some.ty.now _ (told_some _ _ _ _ c.in-Some-2.is c.in_ok-spot.ensures)
    (ap (λ k. type_at k c.args.func) (sym c.module.ensures.same) ∙ sym c.type_of.ensures ∙ ap option_copied c.in-Some.is)
    (le-ltb most_passed (widths c.in-Some.ty.now.params) (omega arith)) c.few_passed.result c.few_passed.ensures
