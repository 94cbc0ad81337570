use Rattle.std.proofs.Common.{◌≡◌, ◌++◌, drop}
use Rattle.std.specs.Prelude.{string_bytes}
use Rattle.app_words.specs.Lines.{global_lines}
use Rattle.app_report.proofs.values.global_lines.Given as goal

abbrev pub invariant-loop-i : goal.invariant-loop-i
invariant-loop-i l = string_bytes l.text ++ global_lines l.i (drop l.i l.values) ≡ global_lines 0 l.values
