use Rattle.std.proofs.Common.{ap}
use Rattle.cc_line.specs.State.{Site}
use Rattle.cc_line.specs.Step.{site_to_place}
use Rattle.cc_call.proofs.LoopLemmas.{loads_more, loads_none, loads_start}
use Rattle.cc_call.proofs.PushLemmas.{act_more, acts_done}
use Rattle.cc_call.proofs.back.push_loads.Goals as goal

pub loop-place-init : goal.loop-place-init
loop-place-init c = loads_start _ _

pub loop-place-preserved : goal.loop-place-preserved
loop-place-preserved c =
    act_more _ _ _ _ _ _ _ c.in_ok-push.ensures.items (ap (λ (p : Site). site_to_place c.loop-place.place p) c.in_last-site.ensures)
    (loads_more _ _ c.loop-place-test.true) c.loop-place.invariant

pub returns : goal.returns
returns c = acts_done _ _ _ (loads_none _ _ c.loop-place-test.false) c.loop-place.invariant
