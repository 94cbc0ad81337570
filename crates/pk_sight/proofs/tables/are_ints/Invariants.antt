use Rattle.std.proofs.Common.{◌≡◌, map, take}
use Rattle.std.specs.Prelude.{◌↔◌, IsTrue}
use Rattle.std.specs.Int.{w32, cast_signed}
use Rattle.mc_nbt.specs.Tree.{int}
use Rattle.mc_nbt.specs.View.{view}
use Rattle.cc_line.specs.Table.{table_word, values_below}
use Rattle.pk_sight.proofs.tables.are_ints.Given as goal

abbrev pub invariant-loop-column : goal.invariant-loop-column
invariant-loop-column l = IsTrue l.same ↔ (map view (take l.column l.trees) ≡ values_below (λ j. int (cast_signed w32 (table_word l.table l.row j))) l.column)
