use Rattle.std.proofs.Common.{arith, refl, subst, sym}
use Rattle.std.specs.Prelude.{◌↔◌, ◌≡◌, IsTrue}
use Rattle.mc_nbt.specs.View.{view}
use Rattle.cc_line.specs.Table.{table_word, words_tree}
use Rattle.cc_line.proofs.TableLemmas.{values_none}
use Rattle.pk_sight.proofs.TableLemmas.{next_same, other_length, whole_same}
use Rattle.pk_sight.proofs.tables.are_rows.Goals as goal

pub returns-then-trees-rows : goal.returns-then-trees-rows
returns-then-trees-rows c = (λ e. absurd cc, λ e. absurd (other_length view _ c.args.rows c.args.trees.now c.if-trees-rows.true e))

pub loop-row-init : goal.loop-row-init
loop-row-init c = (λ e. sym (values_none _), λ e. refl)

pub loop-row-preserved : goal.loop-row-preserved
loop-row-preserved c = next_same view _ c.loop-row.row c.args.trees.now c.index-trees-row.result (omega arith) c.loop-row.same c.is_row-same.result c.loop-row.invariant (subst (λ x. IsTrue c.is_row-same.result ↔ (view x ≡ words_tree (table_word c.args.table c.loop-row.row) c.args.columns)) c.index-trees-row.is c.is_row-same.ensures)

pub returns : goal.returns
returns c = whole_same view _ c.loop-row.row c.args.rows c.args.trees.now c.loop-row.same (omega arith) (omega arith) c.loop-row.invariant
