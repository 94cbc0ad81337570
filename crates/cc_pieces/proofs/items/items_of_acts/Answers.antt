use Rattle.std.proofs.Common.{List, ◌++◌, ap, ◌∙◌, refl}
use Rattle.cc_line.specs.declared.item.Item.{Item}
use Rattle.cc_call.specs.View.{acts_view}
use Rattle.cc_pieces.specs.View.{list_view}
use Rattle.cc_pieces.specs.Lists.{acts_list}
use Rattle.cc_pieces.proofs.EntryLemmas.{acts_made}
use Rattle.cc_pieces.proofs.items.items_of_acts.Goals as goal

pub returns : goal.returns
returns c = acts_made _ _ _ (c.in_ok-push_acts.ensures ∙ ap (λ (xs : List Item). list_view xs ++ acts_list (acts_view c.args.acts.now)) c.new-items.ensures.items) refl
