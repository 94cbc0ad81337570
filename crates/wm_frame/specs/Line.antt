-- The line that tells of a fault.
use Rattle.std.specs.Prelude.{ℕ, List, ◌++◌, codes}
use Rattle.std.specs.Fmt.{decimal}
use Rattle.wm_frame.specs.declared.fault.FrameFault.{FrameFault}
use Rattle.wm_frame.specs.declared.fault.FrameFault.TheVariants as faults

abbrev pub fault_line : FrameFault → List ℕ
fault_line faults.NotWasm = codes "not wasm"
fault_line (faults.BadFrame at) = codes "bad frame at " ++ decimal at
fault_line (faults.BadOrder index) = codes "section order at " ++ decimal index
fault_line faults.Memory = codes "out of memory"
