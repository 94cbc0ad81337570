use Rattle.std.proofs.Common.{◌≡◌, ◌++◌, drop}
use Rattle.std.specs.Prelude.{string_bytes}
use Rattle.app_report.specs.Where.{value_lines}
use Rattle.app_report.proofs.where_lines.value_lines.Given as goal

abbrev pub invariant-loop-i : goal.invariant-loop-i
invariant-loop-i l = string_bytes l.text ++ value_lines l.what l.i (drop l.i l.values) ≡ value_lines l.what 0 l.values
