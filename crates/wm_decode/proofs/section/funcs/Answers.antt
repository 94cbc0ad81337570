use Rattle.std.proofs.Common.{arith}
use Rattle.wm_decode.proofs.section.funcs.Goals as goal

pub unreachable-requires : goal.unreachable-requires
unreachable-requires c = omega (arith, c.in-None.ensures.cases, c.loop-kind.invariant.as_many, c.loop-kind-test.true)
