use Rattle.std.proofs.Common.{refl, ap}
use Rattle.cc_pieces.specs.View.{list_view}
use Rattle.cc_pieces.proofs.DividingLemmas.{answering_made}
use Rattle.cc_pieces.proofs.dividing.answering_items.Goals as goal

pub returns : goal.returns
returns c =
    answering_made c.args.op c.args.top _ c.args.func c.args.index _ _ _ _ _ _ (ap list_view c.new-items.ensures.items) c.saturating_sub-place.ensures c.in_ok-end.ensures
    c.in_ok-push_block.ensures refl c.next_is.ensures c.in_ok-push_act.ensures
