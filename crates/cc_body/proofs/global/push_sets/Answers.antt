use Rattle.std.proofs.Common.{ap}
use Rattle.cc_line.specs.State.{Site}
use Rattle.cc_line.specs.Step.{place_to_site}
use Rattle.cc_call.proofs.PushLemmas.{act_more, acts_done}
use Rattle.cc_body.proofs.StraightLemmas.{sets_more, sets_none, sets_start}
use Rattle.cc_body.proofs.global.push_sets.Goals as goal

pub loop-index-init : goal.loop-index-init
loop-index-init c = sets_start _ _ _ _

pub loop-index-preserved : goal.loop-index-preserved
loop-index-preserved c =
    act_more _ _ _ _ _ _ _ c.in_ok-push.ensures.items (ap (λ (p : Site). place_to_site p c.in_ok-place.place) c.in_ok-site.ensures)
    (sets_more _ _ _ _ _ c.loop-index-test.true c.in_ok-place.ensures) c.loop-index.invariant

pub returns : goal.returns
returns c = acts_done _ _ _ (sets_none _ _ _ _ c.loop-index-test.false) c.loop-index.invariant
