use Rattle.std.proofs.Common.{◌≡◌, sym, ap, ◌∙◌, map}
use Rattle.mc_nbt.specs.Tree as tree
use Rattle.mc_nbt.specs.Tree.{of_items, items}
use Rattle.mc_nbt.specs.View.{list_view, part}
use Rattle.mc_nbt.specs.steps.Edit.{is_closed}
use Rattle.mc_nbt.proofs.EditLemmas
use Rattle.mc_nbt.proofs.EditLemmas.{closed_ints}
use Rattle.mc_nbt.proofs.ViewLemmas.{list_view-Ints, of_items-Ints}
use Rattle.mc_nbt.proofs.edit.open.open_list.Goals as goal

pub returns-in-Ints : goal.returns-in-Ints
returns-in-Ints c =
    let e : of_items (list_view c.args.list) ≡ map tree.int c.in-Ints.items.items = ap (λ l. of_items (list_view l)) c.in-Ints.is ∙ of_items-Ints c.in-Ints.items in (
      c.ints_of.ensures ∙ sym (ap (λ l. tree.list (list_view l)) c.in-Ints.is ∙ ap tree.list (list_view-Ints c.in-Ints.items)),
      ap (λ q. is_closed (tree.child (tree.list (list_view c.args.list)) (part q))) c.in-Place.is ∙ closed_ints c.in-Ints.items.items (list_view c.args.list) c.in-Place.place e,
      EditLemmas.below_list (list_view c.args.list) (part c.args.step.now),
      EditLemmas.below_last_list (list_view c.args.list) (part c.args.step.now),
    )
