use Rattle.std.proofs.Common.{◌≡◌, map, take}
use Rattle.std.specs.Prelude.{◌↔◌, IsTrue}
use Rattle.mc_nbt.specs.View.{view}
use Rattle.cc_line.specs.Table.{table_word, values_below, words_tree}
use Rattle.pk_sight.proofs.tables.are_rows.Given as goal

abbrev pub invariant-loop-row : goal.invariant-loop-row
invariant-loop-row l = IsTrue l.same ↔ (map view (take l.row l.trees) ≡ values_below (λ i. words_tree (table_word l.table i) l.columns) l.row)
