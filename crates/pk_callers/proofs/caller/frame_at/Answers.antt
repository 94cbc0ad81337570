use Rattle.std.proofs.Common.{◌≡◌, ℕ, ◌<◌, ◌++◌, ◌∙◌, List, ℤ, drop, take, false, ap, rules, subst, sym}
use Rattle.mc_nbt.specs.declared.value.Value.{Value}
use Rattle.wm_ast.specs.declared.module.ValType.{ValType}
use Rattle.cc_cut.specs.Law.{widths}
use Rattle.cc_line.specs.Place.{score_places}
use Rattle.cc_values.specs.Told.{AreFirst}
use Rattle.pk_callers.proofs.CallerFound.{told_none, told_some}
use Rattle.pk_callers.proofs.FrameFound.{held_by, not_first, not_whole}
use Rattle.pk_callers.proofs.caller.frame_at.Goals as goal

pub returns-in_default : goal.returns-in_default
returns-in_default c =
    let spot = c.args.spot.now in
    let stay = c.args.stay.now in
    let places = c.args.places.now in
    let kinds : c.as_slice-2.result.now ≡ spot.locals ++ stay =
    c.as_slice-2.ensures.value ∙ c.in_ok-extend_from_slice.ensures.items ∙ ap (λ ts. ts ++ stay) (c.in_ok-kinds.ensures.items ∙ c.as_slice.ensures) in
    not_first spot.size spot.locals stay places
    (subst (λ (ts : List ValType). (vs : List Value) (rest : List ℤ) → AreFirst ts places vs rest → ⊥) kinds (told_none _ _ _ c.in_default.is c.in_ok-values.ensures))

pub returns-then-not-is_whole : goal.returns-then-not-is_whole
returns-then-not-is_whole c =
    let spot = c.args.spot.now in
    let stay = c.args.stay.now in
    let kinds : c.as_slice-3.result.now ≡ spot.locals ++ stay =
    c.as_slice-3.ensures.value ∙ c.in_ok-extend_from_slice.ensures.items ∙ ap (λ ts. ts ++ stay) (c.in_ok-kinds.ensures.items ∙ c.as_slice.ensures) in
    let used : c.in_ok-used.used ≡ widths (spot.locals ++ stay) = c.in_ok-used.ensures ∙ ap widths kinds in
    let no : c.is_whole.result ≡ false = search rules in
    not_whole spot.size spot.locals stay c.args.places.now
    (λ w. let yes = c.is_whole.ensures.1 (λ many. w (subst (λ (n : ℕ). score_places < n) used many)) in absurd cc)

pub returns : goal.returns
returns c =
    let spot = c.args.spot.now in
    let stay = c.args.stay.now in
    let places = c.args.places.now in
    let vs = c.in-Some.values in
    let n = c.len.result in
    let pushed : c.extend_from_slice.new.self.items ≡ spot.locals ++ stay =
    c.in_ok-extend_from_slice.ensures.items ∙ ap (λ ts. ts ++ stay) (c.in_ok-kinds.ensures.items ∙ c.as_slice.ensures) in
    let used : c.in_ok-used.used ≡ widths (spot.locals ++ stay) = c.in_ok-used.ensures ∙ ap widths (c.as_slice-3.ensures.value ∙ pushed) in
    let whole = c.is_whole.ensures.0 (search rules) in
    let first : AreFirst (spot.locals ++ stay) places vs (drop (widths (spot.locals ++ stay)) places) =
    subst (λ (ts : List ValType). AreFirst ts places vs (drop (widths ts) places)) (c.as_slice-2.ensures.value ∙ pushed) (told_some _ _ _ vs c.in-Some.is c.in_ok-values.ensures) in
    let f = c.in_ok-parted.field-0 in
    let parts = c.in_ok-parted.ensures in
    let h = held_by spot.size spot.locals stay places vs f.locals f.operands n c.len.ensures
    (parts.1 ∙ ap (take n) c.as_slice-4.ensures) (parts.2 ∙ ap (drop n) c.as_slice-4.ensures) first
    (λ many. whole (subst (λ (k : ℕ). score_places < k) (sym used) many)) in
    (parts.0, h.0, h.1, h.2)
