use Rattle.cc_pieces.proofs.PartLemmas.{taker_more}
use Rattle.cc_pieces.proofs.entry.push_takers.Goals as goal

pub loop-number-preserved : goal.loop-number-preserved
loop-number-preserved c = taker_more _ _ _ _ _ c.in_ok-push.ensures.items c.in_ok-taker_part.ensures c.loop-number.invariant
