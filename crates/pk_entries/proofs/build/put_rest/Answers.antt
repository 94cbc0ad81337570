use Rattle.std.proofs.Common.{◌<◌, length, map, arith, ◌∙◌}
use Rattle.mc_nbt.specs.View.{entry}
use Rattle.mc_nbt.proofs.ViewLemmas.{view-Ints}
use Rattle.pk_entries.proofs.Making.{rest_put}
use Rattle.pk_entries.proofs.build.put_rest.Goals as goal

pub returns : goal.returns
returns c =
    let long : 128 < length c.args.places.now = omega arith in
    rest_put c.args.places.now c.in_ok-from_slice.field-0.items c.in_ok-new.field-0 _ (map entry c.args.fields.items)
    (map entry c.in_ok-longer.longer.items) long (c.in_ok-from_slice.ensures.items ∙ c.split_at.ensures.back)
    c.in_ok-new.ensures (view-Ints c.in_ok-from_slice.field-0) c.in_ok-longer.ensures
