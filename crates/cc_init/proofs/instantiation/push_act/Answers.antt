use Rattle.cc_init.proofs.GlobalLemmas.{act_pushed}
use Rattle.cc_init.proofs.instantiation.push_act.Goals as goal

pub returns : goal.returns
returns c = act_pushed _ _ _ _ c.in_ok-push.ensures.items c.step.ensures
