use Rattle.std.proofs.Common.{◌≡◌, ◌∙◌, false, true, ap, rules, sym}
use Rattle.cc_call.specs.Frames.{base}
use Rattle.cc_cut.specs.Law.{widths}
use Rattle.pk_entries.specs.View.{entry_view}
use Rattle.pk_callers.proofs.CallerFound.{told_none, told_some}
use Rattle.pk_callers.proofs.Leading.{led_ends, led_unbased}
use Rattle.pk_callers.proofs.waiting.callers_over.Goals as goal

pub returns-in_default : goal.returns-in_default
returns-in_default c = told_none _ _ _ c.in_default.is c.in_ok-inner.ensures (entry_view c.args.first.now)

pub returns-then-not-branch : goal.returns-then-not-branch
returns-then-not-branch c =
    let no : c.in_ok-is_base.field-0 ≡ false = search rules in
    led_unbased c.args.m.now c.args.gives.now c.in-Some.inner.gives _ c.in-Some.inner.frames.items (told_some _ _ _ c.in-Some.inner c.in-Some.is c.in_ok-inner.ensures)
    (entry_view c.args.first.now)
    (λ e. let yes = c.in_ok-is_base.ensures.1 (e ∙ ap (λ ts. base (widths ts)) (sym c.as_slice.ensures)) in absurd cc)

pub returns : goal.returns
returns c =
    let yes : c.in_ok-is_base.field-0 ≡ true = search rules in
    led_ends c.args.m.now c.args.gives.now c.in-Some.inner.gives _ c.in-Some.inner.frames.items (told_some _ _ _ c.in-Some.inner c.in-Some.is c.in_ok-inner.ensures)
    (entry_view c.args.first.now) c.turned.result.items
    (c.in_ok-is_base.ensures.0 yes ∙ ap (λ ts. base (widths ts)) c.as_slice.ensures) c.turned.ensures
