use Rattle.std.proofs.Common.{◌∙◌, ap}
use Rattle.mc_nbt.specs.View.{list_view, view}
use Rattle.mc_nbt.proofs.ViewLemmas.{view-List}
use Rattle.pk_sight.proofs.TableLemmas.{told_list}
use Rattle.pk_sight.proofs.tables.has_rows.Goals as goal

pub returns-in-List : goal.returns-in-List
returns-in-List c = told_list _ (list_view c.in-List.list) _ c.lists_rows.result (ap view c.in-List.is ∙ view-List c.in-List.list) c.lists_rows.ensures
