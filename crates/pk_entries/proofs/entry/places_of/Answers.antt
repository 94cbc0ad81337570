use Rattle.mc_nbt.specs.View.{view}
use Rattle.pk_entries.proofs.Entries.{all_places}
use Rattle.pk_entries.proofs.entry.places_of.Goals as goal

pub returns : goal.returns
returns c =
    all_places (view c.args.tree.now) c.in_ok-places.places.items c.push_under.new.ints.items c.in_ok-push_under.ensures
    c.in_ok-places.ensures
