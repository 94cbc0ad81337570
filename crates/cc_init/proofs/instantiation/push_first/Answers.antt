use Rattle.cc_line.specs.Place.{score_places}
use Rattle.cc_init.specs.Init.{open_acts, settle_acts}
use Rattle.cc_init.specs.steps.Instantiating.{onward_acts, standing_acts}
use Rattle.cc_init.proofs.GlobalLemmas.{acts_pushed_four}
use Rattle.cc_init.proofs.instantiation.push_first.Goals as goal

pub returns : goal.returns
returns c =
    acts_pushed_four _ _ _ _ _ (open_acts 0 score_places) (settle_acts c.args.start.now.uses_bytes) (standing_acts c.args.start.now.pages) (onward_acts c.args.start.now 0)
    c.in_ok-push_places.ensures c.in_ok-push_settled.ensures c.in_ok-push_standing.ensures c.in_ok-push_onward.ensures
