use Rattle.std.proofs.Common.{◌≡◌, ◌∙◌, ap, length, map, rules, sym}
use Rattle.std.specs.Prelude.{nat_eq, vec_len}
use Rattle.std.proofs.lemmas.List.{length-map}
use Rattle.mc_nbt.specs.Tree.{int}
use Rattle.mc_nbt.specs.View.{list_view, view}
use Rattle.mc_nbt.proofs.ViewLemmas.{list_view-Ints, list_view-Trees}
use Rattle.mc_layout.specs.steps.Numbers.{lacks_items}
use Rattle.mc_layout.proofs.LayoutLemmas.{lacks_items-items}
use Rattle.mc_layout.proofs.reading.is_empty.Goals as goal

pub returns-in-Ints : goal.returns-in-Ints
returns-in-Ints c =
    let v = c.in-Ints.ints in
    let sized : vec_len v ≡ length v.items = search rules in
    c.is_empty.ensures ∙ ap (λ n. nat_eq n 0) (sized ∙ sym (length-map v.items int))
    ∙ sym (ap (λ l. lacks_items (list_view l)) c.in-Ints.is ∙ ap lacks_items (list_view-Ints v) ∙ lacks_items-items (map int v.items))

pub returns-in-Trees : goal.returns-in-Trees
returns-in-Trees c =
    let v = c.in-Trees.trees in
    let sized : vec_len v ≡ length v.items = search rules in
    c.is_empty-in-Trees.ensures ∙ ap (λ n. nat_eq n 0) (sized ∙ sym (length-map v.items view))
    ∙ sym (ap (λ l. lacks_items (list_view l)) c.in-Trees.is ∙ ap lacks_items (list_view-Trees v) ∙ lacks_items-items (map view v.items))
