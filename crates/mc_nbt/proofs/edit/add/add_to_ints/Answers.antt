use Rattle.std.proofs.Common.{◌≡◌, sym, ap, ◌∙◌, rules, map, length, ◌<◌, Some, true, false, ◌∷◌, subst}
use Rattle.std.specs.Prelude.{nat_eq}
use Rattle.mc_nbt.specs.Tree as tree
use Rattle.mc_nbt.specs.Tree.{Tree, index_of, of_items, items, of_fields, fields, find, put, is_of_kind, kind}
use Rattle.mc_nbt.specs.View.{view}
use Rattle.mc_nbt.specs.steps.Edit.{edited, IsEdit}
use Rattle.mc_nbt.proofs.EditLemmas.{add_ints}
use Rattle.std.specs.Prelude.{◌++◌, []}
use Rattle.mc_nbt.proofs.edit.add.add_to_ints.Goals as goal

pub returns-in-Some : goal.returns-in-Some
returns-in-Some c =
    let zs = c.args.items.items in
    let some : 0 < length zs = search rules in
    let e : nat_eq 0 (kind (view c.args.v)) ≡ true = ap (λ v. nat_eq 0 (kind v)) c.in-Some.ensures in
    let f : tree.add_item (map tree.int zs) (view c.args.v) ≡ Some (tree.list_of (map tree.int zs ++ tree.int c.in-Some.z ∷ [])) = add_ints zs (view c.args.v) true some e ∙ ap (λ v. Some (tree.list_of (map tree.int zs ++ v ∷ []))) c.in-Some.ensures in
    let added : IsEdit (edited c.add_int.result) (tree.list_of (map tree.int zs)) (Some (tree.list_of (map tree.int zs ++ tree.int c.in-Some.z ∷ []))) = search rules in
    subst (IsEdit (edited c.add_int.result) (tree.list_of (map tree.int zs))) (sym f) added

pub returns-in-None : goal.returns-in-None
returns-in-None c =
    let some : 0 < length c.args.items.items = search rules in
    (add_ints c.args.items.items (view c.args.v) false some c.in-None.ensures, c.ints_of.ensures)
