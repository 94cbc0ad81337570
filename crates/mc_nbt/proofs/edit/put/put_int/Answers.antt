use Rattle.std.proofs.Common.{◌≡◌, ap, ◌∙◌, rules, arith, map, length, ◌<◌, Some, true, false}
use Rattle.std.specs.Prelude.{slice_get, slice_set, nat_eq}
use Rattle.std.proofs.lemmas.Grind.{common_steps}
use Rattle.mc_nbt.specs.Tree as tree
use Rattle.mc_nbt.specs.Tree.{Tree, index_of, of_items, items, of_fields, fields, find, put, is_of_kind, kind}
use Rattle.mc_nbt.specs.View.{view}
use Rattle.mc_nbt.proofs.EditLemmas.{put_in_is, get_int}
use Rattle.mc_nbt.proofs.edit.put.put_int.Goals as goal

pub returns-in-Some-int_of : goal.returns-in-Some-int_of
returns-in-Some-int_of c =
    let xs = map tree.int c.args.items.items in
    let h : index_of (length xs) c.args.place ≡ Some c.in-Some.i = grind (arith, common_steps, rules) in
    let lt : c.in-Some.i < length c.args.items.items = search rules in
    let e : is_of_kind (slice_get xs c.in-Some.i) (view c.args.v) ≡ true = ap (λ o. is_of_kind o (view c.args.v)) (get_int c.args.items.items c.in-Some.i lt) ∙ ap (λ v. nat_eq 0 (kind v)) c.in-Some-int_of.ensures in
    put_in_is xs c.args.place c.in-Some.i (view c.args.v) true h e
    ∙ ap (λ v. Some (tree.list_of (slice_set xs c.in-Some.i v))) c.in-Some-int_of.ensures ∙ ap Some (search rules)

pub returns-in-None-int_of : goal.returns-in-None-int_of
returns-in-None-int_of c =
    let xs = map tree.int c.args.items.items in
    let h : index_of (length xs) c.args.place ≡ Some c.in-Some.i = grind (arith, common_steps, rules) in
    let lt : c.in-Some.i < length c.args.items.items = search rules in
    let e : is_of_kind (slice_get xs c.in-Some.i) (view c.args.v) ≡ false = ap (λ o. is_of_kind o (view c.args.v)) (get_int c.args.items.items c.in-Some.i lt) ∙ c.in-None-int_of.ensures in
    (put_in_is xs c.args.place c.in-Some.i (view c.args.v) false h e, search rules)
