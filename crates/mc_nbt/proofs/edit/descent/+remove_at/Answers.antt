use Rattle.std.proofs.Common.{◌≡◌, sym, ap, ◌∙◌, map, length, ◌-◌, ◌∷◌, take, drop}
use Rattle.mc_nbt.specs.Tree as tree
use Rattle.mc_nbt.specs.Tree.{items}
use Rattle.mc_nbt.specs.View.{view, entry, part, parts}
use Rattle.mc_nbt.proofs.EditLemmas.{nothing, first_and_rest}
use Rattle.mc_nbt.proofs.edit.descent.+remove_at.Goals as goal

pub returns-in-Missing-clause-edits : goal.returns-in-Missing-clause-edits
returns-in-Missing-clause-edits t c =
    let more = take (length c.args.rest.now - 1) (drop 1 c.args.rest.now) in
    let e : parts c.args.rest.now ≡ part c.next-item.result ∷ parts more = first_and_rest part c.args.rest.now c.next-item.result c.in-len1-up.len_at_least c.next-item.is in
    let o = c.in-Missing.ensures in (
      ap (λ rs. tree.remove_at (part c.args.step.now) rs (view c.args.tree)) e
          ∙ ap (tree.through (view c.args.tree) (part c.args.step.now) (tree.remove_at (part c.next-item.result) (parts more))) (nothing (view c.args.tree) (part c.args.step.now) o.0 (map entry c.in-Missing.entries.items) o.1 o.2 o.3),
      c.compound.ensures ∙ sym o.2,
    )
