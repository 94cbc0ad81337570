use Rattle.std.proofs.Common.{◌≡◌}
use Rattle.std.specs.Prelude.{string_bytes}
use Rattle.app_report.specs.Costs.{function_lines}
use Rattle.app_report.proofs.cost_lines.function_lines.Given as goal

abbrev pub invariant-loop-function : goal.invariant-loop-function
invariant-loop-function l = string_bytes l.text ≡ function_lines l.function l.pieces
