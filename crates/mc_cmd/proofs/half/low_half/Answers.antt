use Rattle.std.proofs.Common.{◌∙◌, ap, rules}
use Rattle.std.specs.Prelude.{pos, unsigned_abs}
use Rattle.std.specs.Int.{w32, w64, cast_signed, int_rem_euclid, int_wrap}
use Rattle.std.proofs.lemmas.Int.{to_z-of_z}
use mir.Val.{SFits}
use Rattle.mc_cmd.proofs.half.low_half.Goals as goal

pub returns : goal.returns
unfolding int_wrap
returns c =
    let fits : SFits w32 c.cast_signed.result = search rules in
    let rest : SFits w64 c.rem_euclid.result = search rules in
    to_z-of_z w32 c.cast_signed.result fits ∙ c.cast_signed.ensures
    ∙ ap (λ z. cast_signed w32 (unsigned_abs z)) (to_z-of_z w64 c.rem_euclid.result rest ∙ c.rem_euclid.ensures.value ∙ ap (λ z. int_rem_euclid z (pos 4294967296)) (to_z-of_z w64 c.args.value c.ranges.value))
