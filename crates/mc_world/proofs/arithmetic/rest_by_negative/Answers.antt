use Rattle.std.proofs.Common.{◌≡◌, ◌∙◌, sym, ap, Some, ℤ, pos, rules}
use Rattle.std.specs.Prelude.{neg_ℤ, ◌-ℤ◌}
use Rattle.std.specs.Int.{w32, w64, int_rem_euclid}
use mir.Val.{SFits, to_z, of_z}
use Rattle.mc_world.proofs.ArithmeticLemmas.{negated, negative_rest, rest_negated}
use Rattle.mc_world.proofs.arithmetic.rest_by_negative.Goals as goal

pub returns : goal.returns
returns c =
    let a = c.args.a in
    let b = c.args.b in
    let divisor : ℤ = to_z w64 (of_z w64 (pos 0 -ℤ to_z w64 (of_z w64 (to_z w32 (of_z w32 b))))) in
    let rest = c.rem_euclid-rest.result in
    let is : rest ≡ int_rem_euclid (neg_ℤ a) (neg_ℤ b) = c.rem_euclid-rest.ensures.value ∙ ap (λ z. int_rem_euclid z divisor) (negated a c.ranges.a) ∙ ap (int_rem_euclid (neg_ℤ a)) (negated b c.ranges.b) in
    let fits : SFits w32 rest = search rules in
    ap Some (rest_negated (neg_ℤ a) (neg_ℤ b) rest is fits ∙ ap neg_ℤ is) ∙ sym (negative_rest a b c.requires)
