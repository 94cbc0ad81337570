use Rattle.mc_world.specs.WorldView.{seen}
use Rattle.pk_sight.proofs.ShownLemmas.{frame_is, lacks_place, read_places, told_none, told_some}
use Rattle.pk_sight.proofs.frame.places.Goals as goal

pub returns-in_default : goal.returns-in_default
returns-in_default c p s =
    lacks_place c.args.names.now.ns (seen c.args.world.now) p (told_none _ _ _ c.in_default.is c.in_ok-places.ensures) s

pub returns-in_default-2 : goal.returns-in_default-2
returns-in_default-2 c p s =
    told_none _ _ _ c.in_default-2.is c.in_ok-further.ensures _ (frame_is c.args.names.now.ns (seen c.args.world.now) p s)

pub returns : goal.returns
returns c =
    read_places c.args.names.now.ns c.args.world.now c.in-Some.places.items c.in-Some-2.further.items c.append.new.self.items c.if-not-has_stores.ensures
    (told_some _ _ _ _ c.in-Some.is c.in_ok-places.ensures)
    (told_some _ _ _ _ c.in-Some-2.is c.in_ok-further.ensures)
    c.in_ok-append.ensures.items
