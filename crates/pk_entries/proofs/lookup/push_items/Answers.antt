use Rattle.std.proofs.Common.{◌≡◌, ◌++◌, map, sym, ap, ◌∙◌, subst}
use Rattle.std.specs.Prelude.{OnOk}
use Rattle.mc_nbt.specs.Tree.{of_items}
use Rattle.mc_nbt.specs.View.{view, list_view}
use Rattle.mc_nbt.proofs.ViewLemmas.{of_items-Ints, of_items-Trees}
use Rattle.pk_entries.specs.steps.Reading.{int_of}
use Rattle.pk_entries.proofs.Numbers.{ints_back}
use Rattle.pk_entries.proofs.lookup.push_items.Goals as goal

pub returns-in_ok-extend_from_slice-in-Ints : goal.returns-in_ok-extend_from_slice-in-Ints
returns-in_ok-extend_from_slice-in-Ints c =
    let back : map int_of (of_items (list_view c.args.list.now)) ≡ c.in-Ints.items.items =
    ap (λ l. map int_of (of_items (list_view l))) c.in-Ints.is
    ∙ ap (map int_of) (of_items-Ints c.in-Ints.items)
    ∙ ints_back c.in-Ints.items.items in
    c.in_ok-extend_from_slice-in-Ints.ensures.items
    ∙ ap (λ l. c.args.ints.now.items ++ l) (c.as_slice.ensures.value ∙ sym back)

pub returns-in-Trees : goal.returns-in-Trees
returns-in-Trees c =
    subst (λ l. OnOk c.push_each.result (c.push_each.new.ints.items ≡ c.args.ints.now.items ++ l))
    (ap (λ l. map int_of (map view l)) c.as_slice-in-Trees.ensures.value
    ∙ ap (map int_of) (sym (of_items-Trees c.in-Trees.items))
    ∙ ap (λ l. map int_of (of_items (list_view l))) (sym c.in-Trees.is))
    c.push_each.ensures
