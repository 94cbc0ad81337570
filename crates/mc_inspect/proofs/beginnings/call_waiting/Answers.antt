use Rattle.std.proofs.Common.{◌≡◌, length, take, true, false, sym, ap, subst, ◌∙◌, ◌-◌, arith}
use Rattle.std.proofs.lemmas.List.{nil_from_length}
use Rattle.cc_cut.specs.Law.{widths}
use Rattle.pk_sight.proofs.ShownLemmas.{told_none, told_some}
use Rattle.mc_inspect.specs.steps.Found.{HasNoneBelow, ShowBelow}
use Rattle.mc_inspect.proofs.Entries.{parted_last}
use Rattle.mc_inspect.proofs.Passing.{is_passed, no_call_passed, no_cut_passed, other_passed, uncalled_passed, unfollowed_passed, unframed_passed}
use Rattle.mc_inspect.proofs.beginnings.call_waiting.Goals as goal

pub returns-in_default : goal.returns-in_default
returns-in_default c =
    no_cut_passed c.args.m.now c.args.reading.now c.args.ty.now c.args.caller c.args.index (told_none _ _ _ c.in_default.is c.in_ok-spot.ensures)

pub returns-in_default-call : goal.returns-in_default-call
returns-in_default-call c =
    no_call_passed c.args.m.now c.args.reading.now c.args.ty.now c.args.caller c.args.index c.in-Some.spot
    (told_some _ _ _ _ c.in-Some.is c.in_ok-spot.ensures) c.in_default-call.is

pub returns-then-branch-params : goal.returns-then-branch-params
returns-then-branch-params c =
    other_passed c.args.m.now c.args.reading.now c.args.ty.now c.args.caller c.args.index c.in-Some.spot
    (told_some _ _ _ _ c.in-Some.is c.in_ok-spot.ensures) c.in-Some-call.call c.in-Some-call.is
    (λ e.
    c.if-branch-params.true
    (c.in_ok-widths.ensures ∙ ap widths c.as_slice-2.ensures ∙ e ∙ ap widths (sym c.as_slice.ensures) ∙ sym c.in_ok-params.ensures))

pub returns-then-not-is_followed : goal.returns-then-not-is_followed
returns-then-not-is_followed c =
    unfollowed_passed c.args.m.now c.args.reading.now c.args.ty.now c.args.caller c.args.index
    (λ h.
    let yes : c.is_followed.result ≡ true = c.is_followed.ensures.1 h in
    let no : c.is_followed.result ≡ false = c.if-not-is_followed.true in
    cc)

pub returns-in_default-2 : goal.returns-in_default-2
returns-in_default-2 c =
    uncalled_passed c.args.m.now c.args.reading.now c.args.ty.now c.args.caller c.args.index
    (subst (HasNoneBelow c.args.m.now c.args.reading.now) c.as_slice-3.ensures (told_none _ _ _ c.in_default-2.is c.in_ok-frames.ensures))

pub returns-in_default-as_slice : goal.returns-in_default-as_slice
returns-in_default-as_slice c =
    let items = c.in-Some-2.frames.items in
    let none : length items ≡ 0 = let same : length c.as_slice-4.result.now ≡ length items = ap length c.as_slice-4.ensures.value in omega arith in
    unframed_passed c.args.m.now c.args.reading.now c.args.ty.now c.args.caller c.args.index items
    (subst (λ ts. ShowBelow c.args.m.now c.args.reading.now ts items) c.as_slice-3.ensures (told_some _ _ _ _ c.in-Some-2.is c.in_ok-frames.ensures))
    (nil_from_length items none)

pub returns : goal.returns
returns c =
    let items = c.in-Some-2.frames.items in
    let all = c.as_slice-4.result.now in
    is_passed c.args.m.now c.args.reading.now c.args.ty.now c.args.caller c.args.index c.in-Some.spot (told_some _ _ _ _ c.in-Some.is c.in_ok-spot.ensures)
    c.in-Some-call.call c.in-Some-call.is
    (ap widths (sym c.as_slice-2.ensures) ∙ sym c.in_ok-widths.ensures ∙ c.if-branch-params.false ∙ c.in_ok-params.ensures ∙ ap widths c.as_slice.ensures)
    (c.is_followed.ensures.0 c.if-not-is_followed.false) items
    (subst (λ ts. ShowBelow c.args.m.now c.args.reading.now ts items) c.as_slice-3.ensures (told_some _ _ _ _ c.in-Some-2.is c.in_ok-frames.ensures))
    (take (length all - 1) all) c.last-item.result
    (sym c.as_slice-4.ensures.value ∙ parted_last all c.last-item.result c.in-len1-up.len_at_least c.last-item.is)
    c.in_ok-given.given.now c.in_ok-given.ensures
