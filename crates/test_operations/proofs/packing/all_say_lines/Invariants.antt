use Rattle.std.proofs.Common.{◌≡◌, drop}
use Rattle.mc_cmd.specs.Packing.{are_lines}
use Rattle.test_operations.proofs.packing.all_say_lines.Given as goal

abbrev pub invariant-loop-line : goal.invariant-loop-line
invariant-loop-line l = are_lines (drop l.line-index l.line-items) ≡ are_lines l.lines
