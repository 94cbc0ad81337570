use Rattle.std.proofs.Common.{ℕ, ap, ◌∙◌}
use Rattle.cc_line.specs.Item.{Items}
use Rattle.cc_line.specs.Key.{PieceId}
use Rattle.cc_line.specs.View.{items_view}
use Rattle.cc_pieces.specs.Dividing.{answering_items, answering_piece}
use Rattle.cc_pieces.specs.Parts.{part}
use Rattle.cc_pieces.proofs.PartLemmas.{two_more}
use Rattle.cc_body.specs.steps.PartBuilder.{running}
use Rattle.cc_body.proofs.dividing.push_dividing.Goals as goal

pub returns : goal.returns
returns c =
    let lean = c.args.lean.now in
    let func = lean.body.func in
    two_more _ _ _ _ _ _ _ c.in_ok-push.ensures.items c.in_ok-push-2.ensures.items
    (c.in_ok-part.ensures
    ∙ (ap (λ (p : PieceId). part p (running lean (items_view c.in_ok-items.items.items))) c.in_ok-answering_piece.ensures
    ∙ (ap (λ (xs : Items). part (answering_piece func c.args.index) (running lean xs)) c.in_ok-items.ensures
    ∙ ap (λ (h : ℕ). part (answering_piece func c.args.index) (running lean (answering_items c.args.op h func c.args.index))) c.in_ok-top.ensures.plain)))
    c.in_ok-turning_part.ensures
