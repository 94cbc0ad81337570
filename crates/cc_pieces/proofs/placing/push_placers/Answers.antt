use Rattle.cc_pieces.proofs.PartLemmas.{placer_more}
use Rattle.cc_pieces.proofs.placing.push_placers.Goals as goal

pub loop-place-preserved : goal.loop-place-preserved
loop-place-preserved c = placer_more _ _ _ _ _ _ c.in_ok-push.ensures.items c.in_ok-placer_part.ensures c.loop-place.invariant
