use Rattle.pk_sight.proofs.ShownLemmas.{told_none, told_some}
use Rattle.mc_inspect.proofs.OutsideCalls.{shared_inside, taker_outside}
use Rattle.mc_inspect.proofs.look.takes_at.Goals as goal

pub takes-requires : goal.takes-requires
takes-requires c = (told_some _ _ _ _ c.in-Some.is c.taker_of.ensures).0

pub returns-in-Some : goal.returns-in-Some
returns-in-Some c =
    taker_outside c.args.m.now c.args.reading.now c.args.index c.in-Some.number (told_some _ _ _ _ c.in-Some.is c.taker_of.ensures).1 c.takes.result c.takes.ensures

pub returns-in-None : goal.returns-in-None
returns-in-None c = shared_inside c.args.m.now c.args.reading.now c.args.index (told_none _ _ _ c.in-None.is c.taker_of.ensures)
