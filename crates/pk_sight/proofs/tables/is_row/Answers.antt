use Rattle.std.proofs.Common.{◌∙◌, ap, sym, subst}
use Rattle.std.specs.Prelude.{◌↔◌, ◌≡◌, IsTrue}
use Rattle.mc_nbt.specs.Tree.{Tree}
use Rattle.mc_nbt.specs.View.{list_view, view}
use Rattle.mc_nbt.proofs.ViewLemmas.{view-List}
use Rattle.cc_line.specs.Table.{table_word}
use Rattle.cc_line.proofs.TableLemmas.{words_as_list}
use Rattle.pk_sight.proofs.TableLemmas.{told_list}
use Rattle.pk_sight.proofs.tables.is_row.Goals as goal

pub returns-in-List : goal.returns-in-List
returns-in-List c =
    subst (λ (t : Tree). IsTrue c.lists_row.result ↔ (view c.args.tree.now ≡ t)) (sym (words_as_list (table_word c.args.table c.args.row) c.args.columns))
    (told_list _ (list_view c.in-List.list) _ c.lists_row.result (ap view c.in-List.is ∙ view-List c.in-List.list) c.lists_row.ensures)
