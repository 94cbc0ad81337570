use Rattle.std.proofs.Common.{◌≡◌, refl, sym, ap, ◌∙◌, rules, arith, map, length, Some, true, false, subst}
use Rattle.std.proofs.lemmas.Grind.{common_steps}
use Rattle.mc_nbt.specs.Tree as tree
use Rattle.mc_nbt.specs.Tree.{Tree, index_of, of_items, items, of_fields, fields, find, put, is_of_kind, kind}
use Rattle.mc_nbt.specs.View.{view}
use Rattle.mc_nbt.specs.steps.Edit.{fails, edited, IsEdit}
use Rattle.mc_nbt.proofs.EditLemmas.{put_in_is}
use Rattle.mc_nbt.proofs.edit.put.put_tree.Goals as goal

pub returns-then-is_match : goal.returns-then-is_match
returns-then-is_match c =
    let xs = map view c.args.items.items in
    let h : index_of (length xs) c.args.place ≡ Some c.in-Some.i = grind (arith, common_steps, rules) in
    put_in_is xs c.args.place c.in-Some.i (view c.args.v) true h (search rules) ∙ ap Some (sym c.with_item.ensures)

pub returns-else-is_match : goal.returns-else-is_match
returns-else-is_match c =
    let xs = map view c.args.items.items in
    let h : index_of (length xs) c.args.place ≡ Some c.in-Some.i = grind (arith, common_steps, rules) in
    let failed : edited c.refuse-else-is_match.result ≡ fails (tree.list_of xs) = search rules in
    subst (λ e. IsEdit e (tree.list_of xs) (tree.put_in xs c.args.place (view c.args.v))) (sym failed) (put_in_is xs c.args.place c.in-Some.i (view c.args.v) false h (search rules), refl)
