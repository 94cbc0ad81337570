use Rattle.std.proofs.Common.{arith}
use Rattle.std.specs.Int.{w32}
use Rattle.app_words.proofs.CallingLemmas.{wrapped_above}
use Rattle.app_words.proofs.calling.wrapped_32.Goals as goal

pub returns-then-n-le4294967295 : goal.returns-then-n-le4294967295
returns-then-n-le4294967295 c =
    wrapped_above w32 2147483648 4294967295 c.args.n c.cast_signed.result (λ n h. omega arith) record { sfits = c.cast_signed.type_inv } c.ranges.n c.if-n-lt0.false c.if-n-le4294967295.true c.cast_signed.ensures
