use Rattle.std.proofs.Common.{arith, refl, subst, sym}
use Rattle.std.specs.Prelude.{◌↔◌, ◌≡◌, IsTrue}
use Rattle.std.specs.Int.{w32, cast_signed}
use Rattle.mc_nbt.specs.Tree.{int}
use Rattle.mc_nbt.specs.View.{view}
use Rattle.cc_line.specs.Table.{table_word}
use Rattle.cc_line.proofs.TableLemmas.{values_none}
use Rattle.pk_sight.proofs.TableLemmas.{next_same, other_length, whole_same}
use Rattle.pk_sight.proofs.tables.are_ints.Goals as goal

pub returns-then-trees-columns : goal.returns-then-trees-columns
returns-then-trees-columns c = (λ e. absurd cc, λ e. absurd (other_length view _ c.args.columns c.args.trees.now c.if-trees-columns.true e))

pub loop-column-init : goal.loop-column-init
loop-column-init c = (λ e. sym (values_none _), λ e. refl)

pub loop-column-preserved : goal.loop-column-preserved
loop-column-preserved c =
    next_same view _ c.loop-column.column c.args.trees.now c.index-trees-column.result (omega arith) c.loop-column.same c.is_int-same.result c.loop-column.invariant
    (subst (λ x. IsTrue c.is_int-same.result ↔ (view x ≡ int (cast_signed w32 (table_word c.args.table c.args.row c.loop-column.column)))) c.index-trees-column.is c.is_int-same.ensures)

pub returns : goal.returns
returns c = whole_same view _ c.loop-column.column c.args.columns c.args.trees.now c.loop-column.same (omega arith) (omega arith) c.loop-column.invariant
