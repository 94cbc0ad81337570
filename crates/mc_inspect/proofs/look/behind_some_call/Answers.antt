use Rattle.mc_inspect.proofs.Looking.{mapped, neither_before}
use Rattle.mc_inspect.proofs.look.behind_some_call.Goals as goal

pub returns-in-Some : goal.returns-in-Some
returns-in-Some c = mapped c.behind_call.result _ _ (λ o h s d. h s c.in-Some.is) c.behind_call.ensures

pub returns-in-None : goal.returns-in-None
returns-in-None c s d = neither_before c.args.m.now c.args.reading.now c.args.func c.args.index c.args.spot.now s c.requires d c.in-None.is
