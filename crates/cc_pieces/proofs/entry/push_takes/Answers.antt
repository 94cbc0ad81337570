use Rattle.std.proofs.Common.{ap}
use Rattle.cc_line.specs.State.{Site}
use Rattle.cc_line.specs.Step.{site_to_place}
use Rattle.cc_call.proofs.PushLemmas.{act_more, acts_done}
use Rattle.cc_pieces.proofs.EntryLemmas.{takes_more, takes_none, takes_start}
use Rattle.cc_pieces.proofs.entry.push_takes.Goals as goal

pub loop-index-init : goal.loop-index-init
loop-index-init c = takes_start _ _ _

pub loop-index-preserved : goal.loop-index-preserved
loop-index-preserved c =
    act_more _ _ _ _ _ _ _ c.in_ok-push.ensures.items (ap (λ (p : Site). site_to_place c.in_ok-place.place p) c.in_ok-site.ensures)
    (takes_more _ _ _ _ c.loop-index-test.true c.in_ok-place.ensures) c.loop-index.invariant

pub returns : goal.returns
returns c = acts_done _ _ _ (takes_none _ _ _ c.loop-index-test.false) c.loop-index.invariant
