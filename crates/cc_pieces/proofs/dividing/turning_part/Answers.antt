use Rattle.std.proofs.Common.{ap, ◌∙◌}
use Rattle.cc_line.specs.Item.{Items}
use Rattle.cc_line.specs.Key.{PieceId}
use Rattle.cc_line.specs.View.{items_view}
use Rattle.cc_pieces.specs.Dividing.{turning_piece}
use Rattle.cc_pieces.specs.Parts.{part}
use Rattle.cc_pieces.specs.View.{list_view}
use Rattle.cc_pieces.proofs.DividingLemmas.{turning_made}
use Rattle.cc_pieces.proofs.dividing.turning_part.Goals as goal

pub returns : goal.returns
returns c =
    c.in_ok-part.ensures
    ∙ (ap (λ (p : PieceId). part p (items_view c.push_steps.new.items.items)) c.in_ok-id.ensures
    ∙ ap (λ (xs : Items). part (turning_piece c.args.func c.args.index) xs)
    (turning_made c.args.func c.args.index _ _ _ _ _ _ (ap list_view c.new-items.ensures.items) c.in_ok-turns.ensures c.in_ok-push_block.ensures c.in_ok-answering.ensures c.none_left_step.ensures
    c.in_ok-push_steps.ensures))
