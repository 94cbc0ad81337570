use Rattle.std.proofs.Common.{ap}
use Rattle.cc_line.specs.Step.{keep_place}
use Rattle.cc_call.proofs.LoopLemmas.{takes_more, takes_none, takes_start}
use Rattle.cc_call.proofs.PushLemmas.{act_more, acts_done}
use Rattle.cc_call.proofs.back.push_takes.Goals as goal

pub loop-index-init : goal.loop-index-init
loop-index-init c = takes_start _ _ _

pub loop-index-preserved : goal.loop-index-preserved
loop-index-preserved c =
    act_more _ _ _ _ _ _ _ c.in_ok-push.ensures.items (ap (keep_place c.in_ok-place.place) c.result_score.ensures)
    (takes_more _ _ _ _ c.loop-index-test.true c.in_ok-place.ensures) c.loop-index.invariant

pub returns : goal.returns
returns c = acts_done _ _ _ (takes_none _ _ _ c.loop-index-test.false) c.loop-index.invariant
