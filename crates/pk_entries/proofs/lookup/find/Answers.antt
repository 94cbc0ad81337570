use Rattle.std.proofs.Common.{map, sym, ap, ◌∙◌}
use Rattle.mc_nbt.specs.Tree.{child, find, key}
use Rattle.mc_nbt.specs.View.{view, entry}
use Rattle.mc_nbt.proofs.TreeLemmas.{of_fields-fields}
use Rattle.mc_nbt.proofs.ViewLemmas.{view-Map}
use Rattle.pk_entries.proofs.lookup.find.Goals as goal

pub returns-in-Compound : goal.returns-in-Compound
returns-in-Compound c =
    c.find_entry.ensures
    ∙ ap (λ es. find c.args.key.now (map entry es)) c.entries.ensures
    ∙ ap (find c.args.key.now) (sym (of_fields-fields (map entry c.in-Compound.map.entries.items)))
    ∙ ap (λ t. child t (key c.args.key.now)) (sym (ap view c.in-Compound.is ∙ view-Map c.in-Compound.map))
