use Rattle.mc_inspect.proofs.Looking.{mapped}
use Rattle.mc_inspect.proofs.look.on_way_to_spot.Goals as goal

pub returns-in-Some : goal.returns-in-Some
returns-in-Some c = mapped c.turning.result _ _ (λ o h s. h c.args.index c.requires.low s c.in-Some.is) c.turning.ensures

pub returns-in-None : goal.returns-in-None
returns-in-None c = mapped c.fetching.result _ _ (λ o h s. h c.args.spot.now s c.in-None.is) c.fetching.ensures
