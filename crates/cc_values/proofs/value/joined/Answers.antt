use Rattle.std.proofs.Common.{◌≡◌, ◌+◌, ◌*◌, ap, ◌∙◌, arith, rules}
use Rattle.std.specs.Int.{w32, w64, cast_signed, cast_unsigned, int_wrap}
use Rattle.std.proofs.lemmas.Grind.{common_steps}
use Rattle.cc_values.proofs.Halves.{low_back}
use Rattle.cc_values.proofs.value.joined.Goals as goal

pub returns-clause-lower : goal.returns-clause-lower
returns-clause-lower c =
    let made : c.cast_signed.result ≡ cast_signed w64 (cast_unsigned w32 c.args.high * 4294967296 + cast_unsigned w32 c.args.low) =
    first_of (search rules, grind (arith, common_steps, rules)) in
    let same : cast_signed w64 (cast_unsigned w64 c.cast_signed.result) ≡ c.cast_signed.result = search rules in
    ap (λ z. int_wrap w32 z) same
    ∙ low_back c.args.low c.args.high c.cast_signed.result c.ranges.low c.ranges.high made
