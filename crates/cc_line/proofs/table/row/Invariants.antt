use Rattle.std.proofs.Common.{◌≡◌}
use Rattle.std.specs.Int.{w32, cast_signed}
use Rattle.cc_line.specs.Table.{table_word, values_below}
use Rattle.cc_line.proofs.table.row.Given as goal

abbrev pub invariant-loop-column : goal.invariant-loop-column
invariant-loop-column l = l.numbers.items ≡ values_below (λ j. cast_signed w32 (table_word l.table l.row j)) l.column
