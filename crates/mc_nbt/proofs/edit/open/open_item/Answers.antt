use Rattle.mc_nbt.proofs.TreeLemmas.{of_items-items}
use Rattle.std.proofs.Common.{◌≡◌, ap, ◌∙◌, rules, arith, map, length, Some, None}
use Rattle.std.specs.Prelude.{slice_get}
use Rattle.std.proofs.lemmas.Grind.{common_steps}
use Rattle.mc_nbt.specs.Tree as tree
use Rattle.mc_nbt.specs.Tree.{Tree, index_of, of_items, items, of_fields, fields, find, put, is_of_kind, kind}
use Rattle.mc_nbt.specs.View.{view}
use Rattle.mc_nbt.proofs.EditLemmas
use Rattle.mc_nbt.proofs.EditLemmas.{closed_none, closed_ints, item_child, item_exchange, item_same, find_none, find_at, put_at, value_same, put_in_is, edit_list, left_none, left_out, removed, map_remove, map_set, get_view, get_int, put_found_none, adds_field, added, missing, nothing, first_and_rest}
use Rattle.mc_nbt.proofs.edit.open.open_item.Goals as goal

pub returns-in-None : goal.returns-in-None
returns-in-None c =
    let xs = map view c.args.items.items in
    let h : index_of (length xs) c.args.place ≡ None = grind (arith, common_steps, rules) in
    (c.list_of.ensures, closed_none (items xs) xs c.args.place (of_items-items xs) h, EditLemmas.same _, EditLemmas.same _)

pub returns-in-Some : goal.returns-in-Some
returns-in-Some c =
    let xs = map view c.args.items.items in
    let h : index_of (length xs) c.args.place ≡ Some c.in-Some.i = grind (arith, common_steps, rules) in
    let g : slice_get xs c.in-Some.i ≡ Some (view c.lift_item-left.result.1) = c.lift_item-left.ensures.item in
    let e = item_child (items xs) xs c.args.place c.in-Some.i (view c.lift_item-left.result.1) (of_items-items xs) h g in (
      e,
      e,
      e,
      (λ v. item_exchange (items xs) xs (map view c.lift_item-left.result.0.items) c.args.place c.in-Some.i v (of_items-items xs) h (c.lift_item-left.ensures.rest v)),
      ap tree.list_of (c.lift_item-left.ensures.rest (view c.lift_item-left.result.1) ∙ item_same xs c.in-Some.i (view c.lift_item-left.result.1) g),
      search rules,
    )
