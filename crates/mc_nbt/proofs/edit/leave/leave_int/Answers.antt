use Rattle.std.proofs.Common.{◌≡◌, sym, ap, ◌∙◌, rules, arith, map, length, Some}
use Rattle.std.specs.List as List
use Rattle.std.proofs.lemmas.Grind.{common_steps}
use Rattle.mc_nbt.specs.Tree as tree
use Rattle.mc_nbt.specs.Tree.{Tree, index_of, of_items, items, of_fields, fields, find, put, is_of_kind, kind}
use Rattle.mc_nbt.proofs.EditLemmas
use Rattle.mc_nbt.proofs.EditLemmas.{closed_none, closed_ints, item_child, item_exchange, item_same, find_none, find_at, put_at, value_same, put_in_is, edit_list, left_none, left_out, removed, map_remove, map_set, get_view, get_int, put_found_none, adds_field, added, missing, nothing, first_and_rest}
use Rattle.mc_nbt.proofs.edit.leave.leave_int.Goals as goal

pub returns-in-Some-clause-edits : goal.returns-in-Some-clause-edits
returns-in-Some-clause-edits c =
    let xs = map tree.int c.args.items.items in
    let h : index_of (length xs) c.args.place ≡ Some c.in-Some.i = grind (arith, common_steps, rules) in
    removed xs (List.remove xs c.in-Some.i) c.args.place c.in-Some.i h (EditLemmas.same _) ∙ ap Some (ap tree.list_of (sym (map_remove tree.int c.args.items.items c.in-Some.i)) ∙ ap (λ l. tree.list_of (map tree.int l)) (sym c.remove-z.ensures.items) ∙ sym c.ints_of-in-Some.ensures)
