use Rattle.std.proofs.Common.{ap, ◌∙◌, rules, map}
use Rattle.mc_nbt.specs.Tree as tree
use Rattle.mc_nbt.specs.Tree.{Tree, index_of, of_items, items, of_fields, fields, find, put, is_of_kind, kind}
use Rattle.mc_nbt.specs.View.{view, list_view}
use Rattle.mc_nbt.proofs.EditLemmas.{edit_list}
use Rattle.mc_nbt.proofs.ViewLemmas.{list_view-Ints, list_view-Trees, of_items-Ints, of_items-Trees}
use Rattle.mc_nbt.proofs.edit.leave.leave_list.Goals as goal

pub returns-in-Ints-clause-edits : goal.returns-in-Ints-clause-edits
returns-in-Ints-clause-edits c = edit_list _ (list_view c.args.list) (map tree.int c.in-Ints.items.items) (λ l. tree.without_at l c.args.place) (ap (λ l. of_items (list_view l)) c.in-Ints.is ∙ of_items-Ints c.in-Ints.items) (ap (λ l. tree.list (list_view l)) c.in-Ints.is ∙ ap tree.list (list_view-Ints c.in-Ints.items)) (search rules)

pub returns-in-Trees-clause-edits : goal.returns-in-Trees-clause-edits
returns-in-Trees-clause-edits c = edit_list _ (list_view c.args.list) (map view c.in-Trees.items.items) (λ l. tree.without_at l c.args.place) (ap (λ l. of_items (list_view l)) c.in-Trees.is ∙ of_items-Trees c.in-Trees.items) (ap (λ l. tree.list (list_view l)) c.in-Trees.is ∙ ap tree.list (list_view-Trees c.in-Trees.items)) (search rules)
