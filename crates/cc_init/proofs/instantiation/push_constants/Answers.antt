use Rattle.std.proofs.Common.{◌∙◌, ap}
use Rattle.cc_line.specs.Item.{join}
use Rattle.cc_line.specs.View.{items_view}
use Rattle.cc_init.specs.Init.{constants_acts, window_acts}
use Rattle.cc_init.proofs.GlobalLemmas.{acts_pushed, alone}
use Rattle.cc_init.proofs.instantiation.push_constants.Goals as goal

pub returns : goal.returns
returns c =
    acts_pushed _ _ _ constants_acts window_acts (c.in_ok-push_acts.ensures ∙ ap (λ l. join (items_view c.args.items.now.items) (alone l)) c.constants.ensures)
    (c.in_ok-push_acts-2.ensures ∙ ap (λ l. join (items_view c.push_acts.new.items.items) (alone l)) c.window.ensures)
