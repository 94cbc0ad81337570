use Rattle.std.proofs.Common.{refl}
use Rattle.cc_init.proofs.PlaceLemmas.{place_more, places_done}
use Rattle.cc_init.proofs.instantiation.push_places.Goals as goal

pub loop-place-init : goal.loop-place-init
loop-place-init c = refl

pub loop-place-preserved : goal.loop-place-preserved
loop-place-preserved c = place_more _ _ _ _ _ c.loop-place-test.true c.in_ok-push.ensures.items c.step.ensures c.loop-place.invariant

pub returns : goal.returns
returns c = places_done _ _ _ c.loop-place-test.false c.loop-place.invariant
