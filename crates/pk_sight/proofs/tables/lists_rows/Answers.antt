use Rattle.std.proofs.Common.{◌∙◌, ap, sym, map}
use Rattle.std.specs.Int.{w32, cast_signed}
use Rattle.mc_nbt.specs.Tree.{int, items}
use Rattle.mc_nbt.specs.View.{list_view, view}
use Rattle.mc_nbt.proofs.ViewLemmas.{list_view-Ints, list_view-Trees}
use Rattle.cc_line.specs.Table.{table_word, values_below}
use Rattle.pk_sight.proofs.TableLemmas.{no_rows, told_by}
use Rattle.pk_sight.proofs.tables.lists_rows.Goals as goal

pub returns-in-Trees : goal.returns-in-Trees
returns-in-Trees c =
    told_by _ (map view c.as_slice.result.now) _ c.are_rows.result
    (ap list_view c.in-Trees.is ∙ (list_view-Trees c.in-Trees.trees ∙ ap (λ ts. items (map view ts)) (sym c.as_slice.ensures.value)))
    c.are_rows.ensures

pub returns-in-Ints : goal.returns-in-Ints
returns-in-Ints c = (
  λ e. absurd cc,
  λ e. absurd (no_rows (list_view c.args.list.now) c.in-Ints.field-0.items (λ i. map int (values_below (λ j. cast_signed w32 (table_word c.args.table i j)) c.args.columns)) c.args.rows c.requires (ap list_view c.in-Ints.is ∙ list_view-Ints c.in-Ints.field-0) e),
)
