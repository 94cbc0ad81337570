use mathlib.Core.Bool.{beq}
use Rattle.std.proofs.Common.{◌≡◌, ◌++◌, ◌-◌, ◌∙◌, Bool, true, false, ap, append-nil, append_assoc, refl, subst, sym}
use Rattle.std.specs.Prelude.{OnOk}
use Rattle.cc_line.specs.View.{steps_view}
use Rattle.cc_known.specs.Mask.{sum_steps}
use Rattle.cc_known.proofs.Parts.{sum_none, sum_part, sum_same}
use Rattle.cc_known.proofs.mask.+push_sum.Goals as goal

same : (a b : Bool) → beq a b ≡ true → a ≡ b
same true true e = refl
same false false e = refl
same true false e = absurd (let z : false ≡ true = e in cc)
same false true e = absurd (let z : false ≡ true = e in cc)

apart : (a b : Bool) → beq a b ≡ false → a ≡ b → ⊥
apart true true e q = absurd (let z : true ≡ false = e in cc)
apart false false e q = absurd (let z : true ≡ false = e in cc)
apart true false e q = absurd cc
apart false true e q = absurd cc

pub returns-then-place-eq0 : goal.returns-then-place-eq0
returns-then-place-eq0 t c =
    sym
    (ap (λ p. steps_view c.args.steps.now.items ++ sum_steps c.args.twice p c.args.ones c.args.number) c.if-place-eq0.true
    ∙ ap (λ s. steps_view c.args.steps.now.items ++ s) (sum_none c.args.twice c.args.ones c.args.number)
    ∙ append-nil (steps_view c.args.steps.now.items))

pub returns-then-one-ones : goal.returns-then-one-ones
returns-then-one-ones t c =
    subst (λ s. OnOk c.push_sum.result (steps_view c.push_sum.new.steps.items ≡ steps_view c.args.steps.now.items ++ s))
    (sym (sum_same c.args.twice c.args.place c.args.ones c.args.number c.if-place-eq0.false (sym c.is_one-one.ensures ∙ same c.is_one-one.result c.args.ones c.if-one-ones.true))) c.push_sum.ensures

pub returns : goal.returns
returns t c =
    subst (λ l. OnOk c.push_sum-2.result (steps_view c.push_sum-2.new.steps.items ≡ l))
    (ap (λ l. l ++ sum_steps c.args.twice (c.args.place - 1) c.is_one-one.result c.args.number) c.in_ok-push_part.ensures
    ∙ append_assoc (steps_view c.args.steps.now.items) _ (sum_steps c.args.twice (c.args.place - 1) c.is_one-one.result c.args.number)
    ∙ ap (λ s. steps_view c.args.steps.now.items ++ s) (sym (sum_part c.args.twice c.args.place c.args.ones c.is_one-one.result c.args.number c.if-place-eq0.false (sym c.is_one-one.ensures) (apart c.is_one-one.result c.args.ones c.if-one-ones.false))))
    c.push_sum-2.ensures
