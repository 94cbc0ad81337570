use Rattle.cc_pieces.specs.Fetching.{fetch_piece}
use Rattle.cc_spots.specs.Spot.{IsSpot}
use Rattle.pk_sight.proofs.ShownLemmas.{told_none, told_some}
use Rattle.mc_inspect.proofs.Looking.{no_cut_on_way, tells_where}
use Rattle.mc_inspect.proofs.look.on_the_way.Goals as goal

pub returns-in_default : goal.returns-in_default
returns-in_default c =
    no_cut_on_way c.args.m.now c.args.reading.now c.args.func c.args.index c.args.count c.requires.few (told_none _ _ _ c.in_default.is c.in_ok-spot.ensures)

pub returns : goal.returns
returns c =
    tells_where c.args.m.now c.args.reading.now (fetch_piece c.args.func c.args.index c.args.count) (IsSpot c.args.m.now c.args.func c.args.index c.in-Some.spot)
    (told_some _ _ _ _ c.in-Some.is c.in_ok-spot.ensures) c.on_way_to_spot.result c.on_way_to_spot.ensures
