use Rattle.std.proofs.Common.{ap}
use Rattle.mc_cmd.specs.Form.{Text}
use Rattle.cc_line.specs.Step.{load_place}
use Rattle.cc_call.proofs.LoopLemmas.{hands_more, hands_none, hands_start}
use Rattle.cc_call.proofs.PushLemmas.{act_more, acts_done}
use Rattle.cc_call.proofs.back.push_hands.Goals as goal

pub loop-index-init : goal.loop-index-init
loop-index-init c = hands_start _ _ _

pub loop-index-preserved : goal.loop-index-preserved
loop-index-preserved c =
    act_more _ _ _ _ _ _ _ c.in_ok-push.ensures.items (ap (λ (h : Text). load_place h c.in_ok-place.place) c.result_score.ensures)
    (hands_more _ _ _ _ c.loop-index-test.true c.in_ok-place.ensures) c.loop-index.invariant

pub returns : goal.returns
returns c = acts_done _ _ _ (hands_none _ _ _ c.loop-index-test.false) c.loop-index.invariant
