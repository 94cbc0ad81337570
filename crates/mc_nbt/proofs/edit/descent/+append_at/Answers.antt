use Rattle.std.proofs.Common.{◌≡◌, sym, ap, ◌∙◌, map, length, Some, ◌-◌, ◌∷◌, take, drop, subst}
use Rattle.mc_nbt.specs.Tree as tree
use Rattle.mc_nbt.specs.Tree.{items}
use Rattle.mc_nbt.specs.View.{view, entry, part, parts}
use Rattle.mc_nbt.specs.steps.Edit.{edited, IsEdit}
use Rattle.mc_nbt.proofs.EditLemmas.{missing, below_missing, first_and_rest}
use Rattle.mc_nbt.proofs.edit.descent.+append_at.Goals as goal

pub returns-in-Missing : goal.returns-in-Missing
returns-in-Missing t c =
    let more = take (length c.args.rest.now - 1) (drop 1 c.args.rest.now) in
    let e : parts c.args.rest.now ≡ part c.next-item.result ∷ parts more = first_and_rest part c.args.rest.now c.next-item.result c.in-len1-up.len_at_least c.next-item.is in
    let o = c.in-Missing.ensures in
    subst (λ rs. IsEdit (edited c.add_done.result) (view c.args.tree) (tree.append_at (part c.args.step.now) rs (view c.args.v) (view c.args.tree))) (sym e)
    (missing (edited c.add_done.result) (edited c.append_at.result) (map entry c.in-Missing.entries.items) (view c.args.tree) (view c.empty_compound.result) (part c.args.step.now) o.0 (tree.append_at (part c.next-item.result) (parts more) (view c.args.v)) (tree.below (view c.args.tree) (part c.args.step.now)) o.1 o.2
    (below_missing (view c.args.tree) (map entry c.in-Missing.entries.items) (part c.args.step.now) o.0 o.1 o.2 o.3 ∙ ap Some (sym c.empty_compound.ensures)) c.append_at.ensures c.add_done.ensures)
