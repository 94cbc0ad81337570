use Rattle.std.proofs.Common.{◌≡◌, sym, ap, ◌∙◌, rules, map, Some, None}
use Rattle.std.specs.Prelude.{unwrap_or}
use Rattle.mc_nbt.specs.Tree as tree
use Rattle.mc_nbt.specs.Tree.{Tree, index_of, of_items, items, of_fields, fields, find, put, is_of_kind, kind}
use Rattle.mc_nbt.specs.View.{view, entry, map_view}
use Rattle.mc_nbt.specs.steps.Edit.{value_at, index_of_key}
use Rattle.mc_nbt.proofs.EditLemmas
use Rattle.mc_nbt.proofs.EditLemmas.{closed_none, closed_ints, item_child, item_exchange, item_same, find_none, find_at, put_at, value_same, put_in_is, edit_list, left_none, left_out, removed, map_remove, map_set, get_view, get_int, put_found_none, adds_field, added, missing, nothing, first_and_rest}
use Rattle.mc_nbt.proofs.ViewLemmas.{map_view-is, of_fields-map}
use Rattle.mc_nbt.proofs.edit.open.open_field.Goals as goal

pub returns-in-None : goal.returns-in-None
returns-in-None c =
    let es = map entry c.args.map.entries.items in
    let h : index_of_key c.args.name.now es ≡ None = search rules in
    (c.args.name.now, EditLemmas.same _, ap tree.compound (map_view-is c.args.map), find_none c.args.name.now es h)

pub returns-in-Some : goal.returns-in-Some
returns-in-Some c =
    let es = map entry c.args.map.entries.items in
    let k = c.args.name.now in
    let u = view c.lift_value-left.result.1 in
    let h : index_of_key k es ≡ Some c.in-Some.i = search rules in
    let g : value_at c.in-Some.i es ≡ Some u = c.lift_value-left.ensures.item in
    let f : find k (of_fields (map_view c.args.map)) ≡ Some u = ap (find k) (of_fields-map c.args.map) ∙ find_at k es c.in-Some.i u h g in (
      f,
      ap (λ o. Some (unwrap_or o (tree.compound tree.no_fields))) f,
      ap (λ o. Some (unwrap_or o (tree.list tree.no_items))) f,
      (λ v. ap (λ l. Some (tree.compound_of (put k v l))) (of_fields-map c.args.map) ∙ ap (λ l. Some (tree.compound_of l)) (put_at k es c.in-Some.i u v h g ∙ sym (c.lift_value-left.ensures.rest v))),
      ap tree.compound_of (c.lift_value-left.ensures.rest u ∙ value_same es c.in-Some.i u g) ∙ ap tree.compound (sym (map_view-is c.args.map)),
      search rules,
    )
