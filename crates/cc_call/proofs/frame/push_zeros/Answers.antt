use Rattle.std.proofs.Common.{refl}
use Rattle.cc_call.proofs.LoopLemmas.{zeros_more, zeros_none, zeros_start}
use Rattle.cc_call.proofs.PushLemmas.{act_more, acts_done}
use Rattle.cc_call.proofs.frame.push_zeros.Goals as goal

pub loop-index-init : goal.loop-index-init
loop-index-init c = zeros_start _ _ _

pub loop-index-preserved : goal.loop-index-preserved
loop-index-preserved c =
    act_more _ _ _ _ _ _ _ c.in_ok-push.ensures.items refl
    (zeros_more _ _ _ _ c.loop-index-test.true c.in_ok-place.ensures) c.loop-index.invariant

pub returns : goal.returns
returns c = acts_done _ _ _ (zeros_none _ _ _ c.loop-index-test.false) c.loop-index.invariant
