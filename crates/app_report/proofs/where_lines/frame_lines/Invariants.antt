use Rattle.std.proofs.Common.{◌≡◌, ◌++◌, drop}
use Rattle.std.specs.Prelude.{string_bytes}
use Rattle.app_report.specs.Where.{frame_lines}
use Rattle.app_report.proofs.where_lines.frame_lines.Given as goal

abbrev pub invariant-loop-i : goal.invariant-loop-i
invariant-loop-i l = string_bytes l.text ++ frame_lines l.i (drop l.i l.frames) ≡ frame_lines 0 l.frames
