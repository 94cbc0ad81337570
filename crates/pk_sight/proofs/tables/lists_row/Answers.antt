use Rattle.std.proofs.Common.{◌∙◌, ap, sym, map}
use Rattle.mc_nbt.specs.Tree.{int, items}
use Rattle.mc_nbt.specs.View.{list_view, view}
use Rattle.mc_nbt.proofs.ViewLemmas.{list_view-Ints, list_view-Trees}
use Rattle.pk_sight.proofs.TableLemmas.{told_by}
use Rattle.pk_sight.proofs.tables.lists_row.Goals as goal

pub returns-in-Ints : goal.returns-in-Ints
returns-in-Ints c =
    told_by _ (map int c.as_slice.result.now) _ c.are_words.result
    (ap list_view c.in-Ints.is ∙ (list_view-Ints c.in-Ints.numbers ∙ ap (λ zs. items (map int zs)) (sym c.as_slice.ensures.value)))
    c.are_words.ensures

pub returns-in-Trees : goal.returns-in-Trees
returns-in-Trees c =
    told_by _ (map view c.as_slice-in-Trees.result.now) _ c.are_ints.result
    (ap list_view c.in-Trees.is ∙ (list_view-Trees c.in-Trees.trees ∙ ap (λ ts. items (map view ts)) (sym c.as_slice-in-Trees.ensures.value)))
    c.are_ints.ensures
