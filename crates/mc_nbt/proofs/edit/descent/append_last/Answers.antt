use Rattle.std.proofs.Common.{sym, ap, ◌∙◌, map, Some}
use Rattle.mc_nbt.specs.Tree as tree
use Rattle.mc_nbt.specs.Tree.{items}
use Rattle.mc_nbt.specs.View.{view, entry, part}
use Rattle.mc_nbt.specs.steps.Edit.{edited}
use Rattle.mc_nbt.proofs.EditLemmas.{below_last_missing, missing}
use Rattle.mc_nbt.proofs.edit.descent.append_last.Goals as goal

pub returns-in-Missing : goal.returns-in-Missing
returns-in-Missing c =
    let o = c.in-Missing.ensures in
    let es = map entry c.in-Missing.entries.items in
    missing (edited c.add_done.result) (edited c.add_to.result) es (view c.args.tree) (view c.empty_list.result) (part c.args.step.now) o.0 (tree.add_to (view c.args.v)) (tree.below_last (view c.args.tree) (part c.args.step.now)) o.1 o.2
    (below_last_missing (view c.args.tree) es (part c.args.step.now) o.0 o.1 o.2 o.3 ∙ ap Some (sym c.empty_list.ensures)) c.add_to.ensures c.add_done.ensures
