use Rattle.std.proofs.Common.{◌≡◌, flat_map, take}
use Rattle.cc_line.specs.View.{open_steps_view}
use Rattle.cc_bits.proofs.line.joined_lines.Given as goal

abbrev pub invariant-loop-row : goal.invariant-loop-row
invariant-loop-row l = open_steps_view l.lines.items ≡ flat_map (λ row. open_steps_view row.now) (take l.row-index l.rows)
