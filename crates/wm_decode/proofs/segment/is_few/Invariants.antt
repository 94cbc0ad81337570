use Rattle.std.proofs.Common.{◌≡◌, ◌+◌, ◌^◌, ◌<◌, drop}
use Rattle.wm_ast.specs.Part.{locals_count}
use Rattle.wm_decode.proofs.segment.is_few.Given as goal

abbrev pub invariant-loop-run : goal.invariant-loop-run
invariant-loop-run l = record {
  small : l.count < 2 ^ 32;
  total : l.count + locals_count (drop l.run-index l.runs) ≡ locals_count l.runs;
}
