-- The line that tells of a fault, and what a fault of the sections' bounds becomes.
use Rattle.std.specs.Prelude.{ℕ, List, ◌++◌, codes}
use Rattle.std.specs.Fmt.{decimal}
use Rattle.wm_frame.specs.Line as frame
use Rattle.wm_frame.specs.declared.fault.FrameFault.{FrameFault}
use Rattle.wm_frame.specs.declared.fault.FrameFault.TheVariants as frames
use Rattle.wm_decode.specs.declared.decoding.DecodeFault.{DecodeFault}
use Rattle.wm_decode.specs.declared.decoding.DecodeFault.TheVariants as faults

abbrev pub fault_line : DecodeFault → List ℕ
fault_line (faults.Frame f) = frame.fault_line f
fault_line (faults.BadSection index) = codes "bad section " ++ decimal index
fault_line (faults.CountMismatch functions bodies) =
    decimal functions ++ (codes " functions, " ++ (decimal bodies ++ codes " bodies"))
fault_line faults.Memory = codes "out of memory"

-- want of memory stays want of memory
abbrev pub from_frames : FrameFault → DecodeFault
from_frames frames.Memory = faults.Memory
from_frames frames.NotWasm = faults.Frame frames.NotWasm
from_frames (frames.BadFrame at) = faults.Frame (frames.BadFrame at)
from_frames (frames.BadOrder index) = faults.Frame (frames.BadOrder index)
