use Rattle.std.proofs.Common.{ap}
use Rattle.cc_line.specs.Step.{copy_place}
use Rattle.cc_call.proofs.LoopLemmas.{passes_more, passes_none, passes_start}
use Rattle.cc_call.proofs.PushLemmas.{act_more, acts_done}
use Rattle.cc_call.proofs.call.pass_arguments.Goals as goal

pub loop-place-init : goal.loop-place-init
loop-place-init c = passes_start _ _ _

pub loop-place-preserved : goal.loop-place-preserved
loop-place-preserved c =
    act_more _ _ _ _ _ _ _ c.in_ok-push.ensures.items (ap (copy_place c.loop-place.place) c.in_ok-source.ensures)
    (passes_more _ _ _ c.loop-place-test.true) c.loop-place.invariant

pub returns : goal.returns
returns c = acts_done _ _ _ (passes_none _ _ _ c.loop-place-test.false) c.loop-place.invariant
