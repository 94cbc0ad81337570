use Rattle.std.proofs.Common.{sym, ap, ◌∙◌, rules, arith, map}
use Rattle.std.specs.List as List
use Rattle.std.proofs.lemmas.Grind.{common_steps}
use Rattle.mc_nbt.specs.Tree as tree
use Rattle.mc_nbt.specs.Tree.{Tree, index_of, of_items, items, of_fields, fields, find, put, is_of_kind, kind}
use Rattle.mc_nbt.specs.View.{view, entry, map_view}
use Rattle.mc_nbt.proofs.EditLemmas
use Rattle.mc_nbt.proofs.EditLemmas.{closed_none, closed_ints, item_child, item_exchange, item_same, find_none, find_at, put_at, value_same, put_in_is, edit_list, left_none, left_out, removed, map_remove, map_set, get_view, get_int, put_found_none, adds_field, added, missing, nothing, first_and_rest}
use Rattle.mc_nbt.proofs.ViewLemmas.{map_view-is, of_fields-map}
use Rattle.mc_nbt.proofs.edit.leave.leave_field.Goals as goal

pub returns-in-None-clause-edits : goal.returns-in-None-clause-edits
returns-in-None-clause-edits c =
    let es = map entry c.args.map.entries.items in
    (left_none c.args.name.now (map_view c.args.map) es (of_fields-map c.args.map) (search rules), c.compound.ensures ∙ ap tree.compound (sym (map_view-is c.args.map)))

pub returns-in-Some-clause-edits : goal.returns-in-Some-clause-edits
returns-in-Some-clause-edits c =
    let es = map entry c.args.map.entries.items in
    left_out c.args.name.now (map_view c.args.map) es (List.remove es c.in-Some.i) c.in-Some.i (view c.compound-in-Some.result) (of_fields-map c.args.map) (search rules) (grind (arith, common_steps, rules)) (EditLemmas.same _)
    (c.compound-in-Some.ensures ∙ ap (λ l. tree.compound_of (map entry l)) c.remove-name.ensures.items ∙ ap tree.compound_of (map_remove entry c.args.map.entries.items c.in-Some.i))
