use Rattle.std.proofs.Common.{arith}
use Rattle.mc_inspect.proofs.Looking.{mapped}
use Rattle.mc_inspect.proofs.look.before_spot.Goals as goal

pub returns-in-Some : goal.returns-in-Some
returns-in-Some c = mapped c.behind_division.result _ _ (λ o h s. h c.args.index c.requires s c.in-Some.is (omega arith) (λ z. absurd (omega arith))) c.behind_division.ensures

pub returns-in-None : goal.returns-in-None
returns-in-None c = mapped c.behind_some_call.result _ _ (λ o h s. h s c.in-None.is) c.behind_some_call.ensures
