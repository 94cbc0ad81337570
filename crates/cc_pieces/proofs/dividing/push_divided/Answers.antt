use Rattle.std.proofs.Common.{refl}
use Rattle.cc_pieces.proofs.DividingLemmas.{divided_made}
use Rattle.cc_pieces.proofs.dividing.push_divided.Goals as goal

pub returns : goal.returns
returns c =
    divided_made c.args.op c.args.top c.args.top _ c.args.func _ c.args.found c.args.found _ _ _ _ _ _ _ _ _
    refl c.saturating_sub-place.ensures refl c.unwrap_or-index.ensures c.in_ok-turning.ensures c.in_ok-answering.ensures c.next_is.ensures c.none_left_step.ensures
    c.in_ok-begin.ensures c.in_ok-push_block.ensures c.in_ok-push_act.ensures c.in_ok-push_steps.ensures
