use Rattle.std.proofs.Common.{◌≡◌, drop}
use Rattle.mc_nbt.specs.steps.Scanning.{scan_text, scan_from}
use Rattle.mc_nbt.specs.steps.ScanView.{scan_state, open_marks}
use Rattle.mc_nbt.proofs.scan.scan.Given as goal

abbrev pub invariant-loop-i : goal.invariant-loop-i
invariant-loop-i l = scan_text l.bytes ≡ scan_from (scan_state (open_marks l.stack.items) l.state) l.i l.deepest (drop l.i l.bytes)
