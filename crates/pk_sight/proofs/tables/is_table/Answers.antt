use Rattle.std.proofs.Common.{sym, subst}
use Rattle.std.specs.Prelude.{◌↔◌, ◌≡◌, IsTrue}
use Rattle.mc_nbt.specs.View.{view}
use Rattle.cc_line.specs.Table.{table_tree}
use Rattle.cc_line.specs.declared.table.Table.{Table}
use Rattle.pk_sight.proofs.tables.is_table.Goals as goal

pub returns-in-LowByte : goal.returns-in-LowByte
unfolding table_tree
returns-in-LowByte c = subst (λ (t : Table). IsTrue c.is_row.result ↔ (view c.args.tree.now ≡ table_tree t)) (sym c.in-LowByte.is) c.is_row.ensures

pub returns-in-HighByte : goal.returns-in-HighByte
unfolding table_tree
returns-in-HighByte c = subst (λ (t : Table). IsTrue c.is_row-in-HighByte.result ↔ (view c.args.tree.now ≡ table_tree t)) (sym c.in-HighByte.is) c.is_row-in-HighByte.ensures

pub returns-in-ByteAnd : goal.returns-in-ByteAnd
unfolding table_tree
returns-in-ByteAnd c = subst (λ (t : Table). IsTrue c.has_rows.result ↔ (view c.args.tree.now ≡ table_tree t)) (sym c.in-ByteAnd.is) c.has_rows.ensures

pub returns-in-RaisedAnd : goal.returns-in-RaisedAnd
unfolding table_tree
returns-in-RaisedAnd c = subst (λ (t : Table). IsTrue c.has_rows-in-RaisedAnd.result ↔ (view c.args.tree.now ≡ table_tree t)) (sym c.in-RaisedAnd.is) c.has_rows-in-RaisedAnd.ensures

pub returns-in-Ones : goal.returns-in-Ones
unfolding table_tree
returns-in-Ones c = subst (λ (t : Table). IsTrue c.is_row-in-Ones.result ↔ (view c.args.tree.now ≡ table_tree t)) (sym c.in-Ones.is) c.is_row-in-Ones.ensures

pub returns-in-ShiftLeft : goal.returns-in-ShiftLeft
unfolding table_tree
returns-in-ShiftLeft c = subst (λ (t : Table). IsTrue c.is_row-in-ShiftLeft.result ↔ (view c.args.tree.now ≡ table_tree t)) (sym c.in-ShiftLeft.is) c.is_row-in-ShiftLeft.ensures

pub returns-in-ShiftRightSigned : goal.returns-in-ShiftRightSigned
unfolding table_tree
returns-in-ShiftRightSigned c = subst (λ (t : Table). IsTrue c.is_row-in-ShiftRightSigned.result ↔ (view c.args.tree.now ≡ table_tree t)) (sym c.in-ShiftRightSigned.is) c.is_row-in-ShiftRightSigned.ensures

pub returns-in-ShiftRight : goal.returns-in-ShiftRight
unfolding table_tree
returns-in-ShiftRight c = subst (λ (t : Table). IsTrue c.is_row-in-ShiftRight.result ↔ (view c.args.tree.now ≡ table_tree t)) (sym c.in-ShiftRight.is) c.is_row-in-ShiftRight.ensures

pub returns-in-RotateLeft : goal.returns-in-RotateLeft
unfolding table_tree
returns-in-RotateLeft c = subst (λ (t : Table). IsTrue c.has_rows-in-RotateLeft.result ↔ (view c.args.tree.now ≡ table_tree t)) (sym c.in-RotateLeft.is) c.has_rows-in-RotateLeft.ensures

pub returns-in-RotateRight : goal.returns-in-RotateRight
unfolding table_tree
returns-in-RotateRight c = subst (λ (t : Table). IsTrue c.has_rows-in-RotateRight.result ↔ (view c.args.tree.now ≡ table_tree t)) (sym c.in-RotateRight.is) c.has_rows-in-RotateRight.ensures
