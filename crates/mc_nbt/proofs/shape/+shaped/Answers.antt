use Rattle.std.proofs.Common.{◌≡◌, ap, ◌∙◌, map}
use Rattle.std.specs.Prelude.{◌&&◌}
use Rattle.mc_nbt.specs.Shape.{is_one_kind, is_rising}
use Rattle.mc_nbt.specs.View.{view, entry}
use Rattle.mc_nbt.proofs.ViewLemmas.{list_view-Ints, list_view-Trees, map_view-is}
use Rattle.mc_nbt.proofs.TreeLemmas.{of_items-items, of_fields-fields}
use Rattle.mc_nbt.proofs.ShapeLemmas.{ints_shaped, ints_one_kind, and_true}
use Rattle.mc_nbt.proofs.shape.+shaped.Goals as goal

pub is_list_shaped-returns-in-Ints : goal.is_list_shaped-returns-in-Ints
is_list_shaped-returns-in-Ints t c =
    let within = rw c.as_slice.ensures.value at c.are_in_range.ensures in
    rw (c.in-Ints.is, list_view-Ints, of_items-items, ints_one_kind, and_true, ints_shaped) within

pub is_list_shaped-returns-then-are_trees_shaped : goal.is_list_shaped-returns-then-are_trees_shaped
is_list_shaped-returns-then-are_trees_shaped t c =
    let v = c.in-Trees.trees in
    let kinds : c.are_all_one_kind.result ≡ is_one_kind (map view v.items) = c.are_all_one_kind.ensures ∙ ap (λ ts. is_one_kind (map view ts)) c.as_slice-then-are_trees_shaped.ensures.value in
    let within = rw c.as_slice-in-Trees.ensures.value at c.if-are_trees_shaped.ensures in
    rw (c.in-Trees.is, list_view-Trees, of_items-items) (kinds ∙ ap (λ b. b && is_one_kind (map view v.items)) within)

pub is_map_shaped-returns-then-are_entries_shaped : goal.is_map_shaped-returns-then-are_entries_shaped
is_map_shaped-returns-then-are_entries_shaped t c =
    let es = map entry c.args.map.now.entries.items in
    let rising : c.are_rising.result ≡ is_rising es = c.are_rising.ensures ∙ ap (λ fs. is_rising (map entry fs)) c.entries-then-are_entries_shaped.ensures in
    let within = rw c.entries.ensures at c.if-are_entries_shaped.ensures in
    rw (map_view-is, of_fields-fields) (rising ∙ ap (λ b. b && is_rising es) within)
