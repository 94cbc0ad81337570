use Rattle.cc_init.proofs.GlobalLemmas.{acts_more, no_acts}
use Rattle.cc_init.proofs.instantiation.push_acts.Goals as goal

pub loop-act-init : goal.loop-act-init
loop-act-init c = no_acts _

pub loop-act-preserved : goal.loop-act-preserved
loop-act-preserved c = acts_more _ _ _ c.args.acts.now c.loop-act.act-index _ c.loop-act-test.true c.loop-act.invariant c.in_ok-push_act.ensures
