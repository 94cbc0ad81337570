use Rattle.std.proofs.Common.{arith}
use Rattle.std.specs.Int.{w64}
use Rattle.app_words.proofs.CallingLemmas.{wrapped_above}
use Rattle.app_words.proofs.calling.wrapped_64.Goals as goal

pub returns-then-n-le18446744073709551615 : goal.returns-then-n-le18446744073709551615
returns-then-n-le18446744073709551615 c =
    wrapped_above w64 9223372036854775808 18446744073709551615 c.args.n c.cast_signed.result (λ n h. omega arith) record { sfits = c.cast_signed.type_inv } c.ranges.n c.if-n-lt0.false c.if-n-le18446744073709551615.true c.cast_signed.ensures
