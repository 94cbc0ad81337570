use Rattle.std.proofs.Common.{◌≡◌, map}
use Rattle.mc_nbt.specs.View.{view}
use Rattle.cc_line.specs.Table.{table_word, values_below, words_tree}
use Rattle.cc_line.proofs.table.rows.Given as goal

abbrev pub invariant-loop-index : goal.invariant-loop-index
invariant-loop-index l = map view l.trees.items ≡ values_below (λ i. words_tree (table_word l.table i) l.columns) l.index
