use Rattle.std.proofs.Common.{◌≡◌, flat_map, take}
use Rattle.cc_line.specs.View.{steps_view}
use Rattle.cc_bits.proofs.line.joined.Given as goal

abbrev pub invariant-loop-row : goal.invariant-loop-row
invariant-loop-row l = steps_view l.steps.items ≡ flat_map (λ row. steps_view row.now) (take l.row-index l.rows)
