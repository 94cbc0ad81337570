use Rattle.cc_pieces.proofs.PartLemmas.{fetch_more}
use Rattle.cc_pieces.proofs.fetching.push_fetching.Goals as goal

pub loop-number-preserved : goal.loop-number-preserved
loop-number-preserved c = fetch_more _ _ _ _ _ _ _ _ _ c.in_ok-push.ensures.items c.in_ok-fetching_part.ensures c.loop-number.invariant
