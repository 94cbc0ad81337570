use Rattle.std.proofs.Common.{ap, ◌∷◌, [], ◌∙◌}
use Rattle.cc_line.specs.Item.{first, join, no_more}
use Rattle.cc_line.specs.View.{items_view}
use Rattle.cc_line.proofs.ItemViewLemmas.{view_joined}
use Rattle.cc_i32.proofs.division.push_call.Goals as goal

pub returns : goal.returns
returns c =
    ap items_view c.in_ok-push.ensures.items
    ∙ view_joined c.args.items.now.items (c.call.result ∷ [])
    ∙ ap (λ x. join (items_view c.args.items.now.items) (first x no_more)) c.call.ensures
