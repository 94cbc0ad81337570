use Rattle.std.proofs.Common.{◌≡◌, ◌∙◌, sym, ap, Some, ℤ, pos, rules, arith, subst}
use Rattle.std.specs.Prelude.{neg_ℤ, ◌-ℤ◌}
use Rattle.std.specs.Int.{w32, w64, int_div_euclid}
use Rattle.std.proofs.lemmas.Int.{ints, int_wrap_fits}
use mir.Val.{SFits, to_z, of_z}
use Rattle.mc_cmd.specs.World.{wrapped}
use Rattle.mc_world.proofs.ArithmeticLemmas.{narrowed, negated, negative_quotient, quotient_fits, wrapped_top}
use Rattle.mc_world.proofs.arithmetic.quotient_by_negative.Goals as goal

pub returns-then-floor-eq2147483648 : goal.returns-then-floor-eq2147483648
returns-then-floor-eq2147483648 c =
    let a = c.args.a in
    let b = c.args.b in
    let divisor : ℤ = to_z w64 (of_z w64 (pos 0 -ℤ to_z w64 (of_z w64 (to_z w32 (of_z w32 b))))) in
    let floor = c.div_euclid-floor.result in
    let is : floor ≡ int_div_euclid (neg_ℤ a) (neg_ℤ b) = c.div_euclid-floor.ensures ∙ ap (λ z. int_div_euclid z divisor) (negated a c.ranges.a) ∙ ap (int_div_euclid (neg_ℤ a)) (negated b c.ranges.b) in
    let fits : SFits w64 floor = search rules in
    let same : of_z w64 floor ≡ 2147483648 = c.if-floor-eq2147483648.true in
    let top : floor ≡ pos 2147483648 = omega (arith, ints) in
    sym (negative_quotient a b c.requires ∙ ap (λ z. Some (wrapped z)) (sym is ∙ top) ∙ ap Some wrapped_top)

pub returns-else-floor-eq2147483648 : goal.returns-else-floor-eq2147483648
returns-else-floor-eq2147483648 c =
    let a = c.args.a in
    let b = c.args.b in
    let divisor : ℤ = to_z w64 (of_z w64 (pos 0 -ℤ to_z w64 (of_z w64 (to_z w32 (of_z w32 b))))) in
    let floor = c.div_euclid-floor.result in
    let is : floor ≡ int_div_euclid (neg_ℤ a) (neg_ℤ b) = c.div_euclid-floor.ensures ∙ ap (λ z. int_div_euclid z divisor) (negated a c.ranges.a) ∙ ap (int_div_euclid (neg_ℤ a)) (negated b c.ranges.b) in
    let fits : SFits w32 floor = subst (SFits w32) (sym is) (quotient_fits a b c.ranges.a c.requires (λ e. c.if-floor-eq2147483648.false (ap (of_z w64) (is ∙ e)))) in
    ap Some (narrowed floor fits ∙ sym (int_wrap_fits w32 floor fits) ∙ ap wrapped is) ∙ sym (negative_quotient a b c.requires)
