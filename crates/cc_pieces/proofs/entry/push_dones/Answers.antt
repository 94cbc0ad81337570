use Rattle.cc_pieces.proofs.PartLemmas.{dones_made}
use Rattle.cc_pieces.proofs.entry.push_dones.Goals as goal

pub returns : goal.returns
returns c =
    dones_made _ _ _ _ _ _ _ c.in_ok-push.ensures.items c.in_ok-push-2.ensures.items c.in_ok-push-3.ensures.items c.in_ok-done_part.ensures c.in_ok-done_part-2.ensures
    c.in_ok-done_part-3.ensures
