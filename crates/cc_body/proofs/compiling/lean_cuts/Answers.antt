use Rattle.std.proofs.Common.{List, map, false, None, ap₂, ◌∙◌}
use Rattle.wm_place.specs.Visit.{function_visits}
use Rattle.cc_line.specs.BlockView.{block_items}
use Rattle.cc_line.specs.declared.block.Block.{Block}
use Rattle.cc_line.specs.declared.item.Item.{Item}
use Rattle.cc_body.specs.View.{knowns_view}
use Rattle.cc_pieces.specs.View.{list_view}
use Rattle.cc_body.specs.steps.PieceBuilder.{ground, made}
use Rattle.cc_body.proofs.PieceBuilderLemmas.{cuts_made}
use Rattle.cc_body.proofs.compiling.lean_cuts.Goals as goal

pub returns : goal.returns
returns c =
    c.in_ok-close.ensures.cuts
    ∙ cuts_made made (λ s. s.body) ground (function_visits c.args.m.now c.args.body.func) _ c.walk.new.visitor 0 (knowns_view c.nothing.result) c.in_ok-walk.ensures
    (ap₂ (λ (xs : List Item) (bs : List Block). record { spent = 0; opened = false; height = 0; open_still = false; knowns = knowns_view c.nothing.result; left = None; items = list_view xs; cuts = map block_items bs }) c.new.ensures.items c.new-2.ensures.items)
