use Rattle.std.proofs.Common.{ap, ◌∙◌}
use Rattle.cc_line.specs.State.{Site}
use Rattle.cc_line.specs.Step.{keep_site}
use Rattle.cc_line.specs.View.{scratch_text}
use Rattle.cc_call.specs.Frames.{result_at}
use Rattle.cc_call.proofs.LoopLemmas.{tells_more, tells_none, tells_start}
use Rattle.cc_call.proofs.PushLemmas.{act_more, acts_done}
use Rattle.cc_call.proofs.job.push_tells.Goals as goal

pub loop-index-init : goal.loop-index-init
loop-index-init c = tells_start _ _

pub loop-index-preserved : goal.loop-index-preserved
loop-index-preserved c =
    act_more _ _ _ _ _ _ _ c.in_ok-push.ensures.items (ap (λ (p : Site). keep_site p (scratch_text c.result_score.result)) c.in_ok-site.ensures ∙ ap (keep_site (result_at c.loop-index.index)) c.result_score.ensures)
    (tells_more _ _ c.loop-index-test.true) c.loop-index.invariant

pub returns : goal.returns
returns c = acts_done _ _ _ (tells_none _ _ c.loop-index-test.false) c.loop-index.invariant
