use Rattle.std.proofs.Common.{arith}
use Rattle.wm_reduce.proofs.StepLaws.{begins, exact_count}
use Rattle.wm_reduce.proofs.step.begin.Goals as goal

pub open-requires : goal.open-requires
open-requires c = let n = exact_count c.args.m.now c.args.func c.args.arguments c.in-Some.function c.requires c.in-Some.ensures in omega arith

pub returns : goal.returns
returns c = λ s.
    begins c.args.m.now s c.args.func c.args.arguments c.in-Some.function c.in-Some.ensures.0 c.new.result c.in_ok-current.current c.in-Some.ensures.1 c.in-Some.ensures.2
    (exact_count c.args.m.now c.args.func c.args.arguments c.in-Some.function c.requires c.in-Some.ensures) c.new.ensures (c.in_ok-current.ensures.opened c.in-Some.ensures.0 c.in-Some.ensures.2)
