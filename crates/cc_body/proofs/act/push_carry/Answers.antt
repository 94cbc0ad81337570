use Rattle.std.proofs.Common.{refl}
use Rattle.cc_call.proofs.PushLemmas.{act_more, acts_done}
use Rattle.cc_body.proofs.ActLemmas.{carry_more, carry_none, carry_starts}
use Rattle.cc_body.proofs.act.push_carry.Goals as goal

pub loop-index-init : goal.loop-index-init
loop-index-init c = carry_starts _ _ _ _

pub loop-index-preserved : goal.loop-index-preserved
loop-index-preserved c =
    act_more _ _ _ _ _ _ _ c.in_ok-push.ensures.items refl (carry_more _ _ _ _ _ _ c.loop-index-test.true c.in_ok-source.ensures c.in_ok-target.ensures) c.loop-index.invariant

pub returns : goal.returns
returns c = acts_done _ _ _ (carry_none _ _ _ _ c.loop-index-test.false) c.loop-index.invariant
