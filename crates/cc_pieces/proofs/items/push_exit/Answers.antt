use Rattle.cc_pieces.proofs.ItemLemmas.{exit_made}
use Rattle.cc_pieces.proofs.items.push_exit.Goals as goal

pub returns : goal.returns
returns c = exit_made _ _ _ _ _ _ c.in_ok-push_where.ensures c.step.ensures c.in_ok-push.ensures.items
