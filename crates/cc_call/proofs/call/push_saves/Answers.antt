use Rattle.std.proofs.Common.{ap}
use Rattle.cc_line.specs.State.{Site}
use Rattle.cc_line.specs.Step.{place_to_site}
use Rattle.cc_call.proofs.LoopLemmas.{saves_more, saves_none, saves_start}
use Rattle.cc_call.proofs.PushLemmas.{act_more, acts_done}
use Rattle.cc_call.proofs.call.push_saves.Goals as goal

pub loop-place-init : goal.loop-place-init
loop-place-init c = saves_start _ _

pub loop-place-preserved : goal.loop-place-preserved
loop-place-preserved c =
    act_more _ _ _ _ _ _ _ c.in_ok-push.ensures.items (ap (λ (p : Site). place_to_site p c.loop-place.place) c.in_entry-site.ensures)
    (saves_more _ _ c.loop-place-test.true) c.loop-place.invariant

pub returns : goal.returns
returns c = acts_done _ _ _ (saves_none _ _ c.loop-place-test.false) c.loop-place.invariant
