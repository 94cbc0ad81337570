use Rattle.std.proofs.Common.{sym, ap, ◌∙◌, rules, arith, map, Some}
use Rattle.std.proofs.lemmas.Grind.{common_steps}
use Rattle.mc_nbt.specs.Tree as tree
use Rattle.mc_nbt.specs.Tree.{Tree, index_of, of_items, items, of_fields, fields, find, put, is_of_kind, kind}
use Rattle.mc_nbt.specs.View.{view, entry, map_view}
use Rattle.mc_nbt.proofs.EditLemmas.{find_none, put_found_none, adds_field}
use Rattle.mc_nbt.proofs.ViewLemmas.{map_view-is, of_fields-map}
use Rattle.mc_nbt.proofs.edit.put.put_field.Goals as goal

pub returns-in-None : goal.returns-in-None
returns-in-None c = adds_field _ (map entry c.args.map.entries.items) (map_view c.args.map) c.args.name.now (view c.args.v) (of_fields-map c.args.map) (ap tree.compound (map_view-is c.args.map)) c.add_field.ensures

pub returns-in-Some : goal.returns-in-Some
returns-in-Some c =
    let es = map entry c.args.map.entries.items in
    ap (λ l. Some (tree.compound_of (put c.args.name.now (view c.args.v) l))) (of_fields-map c.args.map)
    ∙ ap (λ l. Some (tree.compound_of l)) (put_found_none c.args.name.now (view c.args.v) es c.in-Some.i (search rules) (grind (arith, common_steps, rules)))
    ∙ ap Some (sym c.with_field.ensures)

pub add_field-requires : goal.add_field-requires
add_field-requires c = find_none c.args.name.now (map entry c.args.map.entries.items) (search rules)
