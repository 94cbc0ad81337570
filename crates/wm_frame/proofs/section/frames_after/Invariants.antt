use Rattle.std.proofs.Common.{◌-◌, ◌≤◌, length}
use Rattle.wm_frame.specs.Framing.{AreFrames}
use Rattle.wm_frame.proofs.section.frames_after.Given as goal

abbrev pub invariant-loop-at : goal.invariant-loop-at
invariant-loop-at l = record {
  within : l.at ≤ length l.bytes;
  frames : AreFrames l.bytes 8 l.found.items l.at;
}

abbrev pub decreases-loop-at : goal.decreases-loop-at
decreases-loop-at l = length l.bytes - l.at
