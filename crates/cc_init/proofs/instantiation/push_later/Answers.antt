use Rattle.cc_init.specs.steps.Instantiating.{appended_acts, onward_acts}
use Rattle.cc_init.proofs.GlobalLemmas.{onward_pushed}
use Rattle.cc_init.proofs.instantiation.push_later.Goals as goal

pub returns : goal.returns
returns c =
    onward_pushed _ _ _ (appended_acts c.args.start.now c.args.before) (onward_acts c.args.start.now) c.args.before _ c.in_ok-push_appended.ensures
    c.in_ok-push_onward.ensures c.in_ok-sum.ensures
