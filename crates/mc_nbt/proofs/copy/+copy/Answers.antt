use Rattle.std.proofs.Common.{sym, ap, ◌∙◌, rules, map}
use Rattle.mc_nbt.specs.Tree.{int, items, compound_of}
use Rattle.mc_nbt.specs.View.{view, list_view}
use Rattle.mc_nbt.proofs.ViewLemmas.{list_view-Ints, view-Map}
use Rattle.mc_nbt.proofs.copy.+copy.Goals as goal

pub copy-returns-in_ok-copy_entries-in-Compound : goal.copy-returns-in_ok-copy_entries-in-Compound
copy-returns-in_ok-copy_entries-in-Compound t c =
    c.compound.ensures ∙ ap compound_of c.in_ok-copy_entries-in-Compound.ensures ∙ sym (ap view c.in-Compound.is ∙ view-Map c.in-Compound.map)

pub copy_list-returns-in_ok-from_slice-in-Ints : goal.copy_list-returns-in_ok-from_slice-in-Ints
copy_list-returns-in_ok-from_slice-in-Ints t c =
    list_view-Ints c.in_ok-from_slice-in-Ints.field-0 ∙ ap (λ zs. items (map int zs)) (search rules) ∙ sym (ap list_view c.in-Ints.is ∙ list_view-Ints c.in-Ints.items)
