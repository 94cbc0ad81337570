-- What the sections after the header are, before the header and the order are looked at.
use Rattle.std.specs.Prelude.{ℕ, List, length, Result, Ok, Err}
use Rattle.wm_frame.specs.Framing.{AreFrames, HasHeader, IsBroken}
use Rattle.wm_frame.specs.declared.fault.FrameFault.{FrameFault}
use Rattle.wm_frame.specs.declared.fault.FrameFault.TheVariants as faults
use Rattle.wm_frame.specs.declared.section.Frame.{Frame}

-- what looking for sections answers
abbrev pub AreFramesAfter : List ℕ → Result (List Frame) FrameFault → Type 0
AreFramesAfter bytes (Ok fs) = AreFrames bytes 8 fs (length bytes)
AreFramesAfter bytes (Err faults.NotWasm) = ⊥
AreFramesAfter bytes (Err (faults.BadFrame at)) = HasHeader bytes → IsBroken bytes at
AreFramesAfter bytes (Err (faults.BadOrder index)) = ⊥
AreFramesAfter bytes (Err faults.Memory) = Unit {0}
