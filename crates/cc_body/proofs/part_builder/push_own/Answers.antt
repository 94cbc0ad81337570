use Rattle.std.proofs.Common.{◌∙◌}
use Rattle.cc_line.specs.View.{items_view}
use Rattle.cc_pieces.specs.Parts.{parts_view}
use Rattle.cc_body.proofs.PartBuilderLemmas.{own_made, own_none}
use Rattle.cc_body.proofs.part_builder.push_own.Goals as goal

pub returns-in_default : goal.returns-in_default
returns-in_default c = own_none c.args.lean.now c.args.position (parts_view c.args.parts.now.items) c.in_default.ensures.lookup

pub returns : goal.returns
returns c =
    own_made c.args.lean.now c.args.position c.in_ok-index.index c.in-Some.block (items_view c.in_ok-items.items.items) c.in_ok-part.field-0 _ _ c.in-Some.ensures.lookup c.in_ok-index.ensures (c.in_ok-items.ensures ∙ c.items.ensures)
    c.in_ok-part.ensures c.in_ok-push.ensures.items
