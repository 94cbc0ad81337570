use Rattle.std.proofs.Common.{◌≡◌, length, map, min, take, refl, ap, ◌∙◌, arith, rules}
use Rattle.std.proofs.lemmas.Grind.{common_steps}
use Rattle.mc_nbt.specs.Tree.{compound_of}
use Rattle.mc_nbt.specs.View.{entry}
use Rattle.mc_nbt.proofs.ViewLemmas.{view-Map}
use Rattle.cc_line.specs.Running.{with_rest}
use Rattle.pk_entries.specs.View.{entry_view}
use Rattle.pk_entries.proofs.Making.{entry_made}
use Rattle.pk_entries.proofs.build.entry_nbt.Goals as goal

pub returns : goal.returns
returns c =
    let saved : c.min-saved.result ≡ min (length c.args.from.now.places.items) 128 =
    first_of (search rules, grind (arith, common_steps, rules)) in
    view-Map c.from_entries.result
    ∙ ap (λ es. compound_of (map entry es)) c.from_entries.ensures
    ∙ entry_made (entry_view c.args.from.now) _ c.min-saved.result (map entry c.in_ok-fields.fields.items)
    (map entry c.in_ok-fields-2.fields.items) (map entry c.in_ok-fields-3.fields.items) c.min-saved.result saved
    (c.split_at.ensures.front ∙ ap (take c.min-saved.result) c.as_slice-places.ensures.value) refl
    (ap compound_of c.in_ok-fields.ensures) c.in_ok-fields-2.ensures
    (c.in_ok-fields-3.ensures
    ∙ ap (λ l. with_rest l (compound_of (map entry c.in_ok-fields-2.fields.items))) c.as_slice-places.ensures.value)
