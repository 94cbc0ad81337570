use Rattle.cc_pieces.proofs.ItemLemmas.{block_added}
use Rattle.cc_pieces.proofs.items.push_block.Goals as goal

pub returns : goal.returns
returns c = block_added _ _ _ _ c.in_ok-append.ensures.items c.into_items-more.ensures
