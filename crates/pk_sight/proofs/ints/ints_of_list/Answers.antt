use Rattle.std.proofs.Common.{◌≡◌, ◌∙◌, ap, sym, map}
use Rattle.mc_nbt.specs.Tree.{items}
use Rattle.mc_nbt.specs.View.{list_view, view}
use Rattle.mc_nbt.proofs.ViewLemmas.{list_view-Trees}
use Rattle.pk_sight.proofs.IntLemmas.{told_of_elements}
use Rattle.pk_sight.proofs.ints.ints_of_list.Goals as goal

pub returns-in-Trees : goal.returns-in-Trees
returns-in-Trees c =
    let whole : list_view c.args.list.now ≡ items (map view c.in-Trees.trees.items) = ap list_view c.in-Trees.is ∙ list_view-Trees c.in-Trees.trees in
    let slice : map view c.as_slice-in-Trees.result.now ≡ map view c.in-Trees.trees.items = ap (map view) c.as_slice-in-Trees.ensures.value in
    told_of_elements _ (map view c.as_slice-in-Trees.result.now) (list_view c.args.list.now) (whole ∙ ap items (sym slice)) c.ints_of_trees.ensures
