use Rattle.std.proofs.Common.{Option, Vec, Global, sym, ap, ◌∙◌}
use Rattle.std.specs.Prelude.{option_map}
use Rattle.pk_entries.specs.declared.entry.Entry.{Entry}
use Rattle.mc_inspect.specs.steps.Openings.{last_places_in, last_places_of}
use Rattle.mc_inspect.proofs.Entries.{last_read}
use Rattle.mc_inspect.proofs.beginnings.last_places.Goals as goal

pub returns-in-len1-up : goal.returns-in-len1-up
returns-in-len1-up c =
    c.as_slice-in-len1-up.ensures.value
    ∙ sym (last_read c.as_slice.result.now c.last-item.result c.in-len1-up.len_at_least c.last-item.is)
    ∙ ap last_places_of c.as_slice.ensures.value
    ∙ sym (ap (λ (o : Option (Vec Entry Global)). last_places_in (option_map (λ v. v.items) o)) c.in-Some.is)
