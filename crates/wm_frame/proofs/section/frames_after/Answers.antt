use Rattle.wm_frame.proofs.FramingLaws.{frames_push}
use Rattle.wm_frame.proofs.section.frames_after.Goals as goal

pub loop-at-preserved : goal.loop-at-preserved
loop-at-preserved c = record {
  within = c.in-Some.ensures.found.within;
  frames = rw c.in_ok-push-in-Some.ensures.items (frames_push c.args.bytes.now 8 c.loop-at.at c.loop-at.found.items c.in-Some.frame c.loop-at.invariant.frames c.in-Some.ensures.found);
}
