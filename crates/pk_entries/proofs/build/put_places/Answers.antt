use Rattle.std.proofs.Common.{◌≡◌, ◌<◌, ℤ, get_or, length, map, pos, ap, ◌∙◌, arith, refl, rules}
use Rattle.std.specs.Int.{w32, cast_signed, cast_unsigned}
use Rattle.std.specs.Fmt.{decimal}
use Rattle.std.proofs.lemmas.Grind.{common_steps}
use Rattle.mc_nbt.specs.Tree.{int}
use Rattle.mc_nbt.specs.View.{entry}
use Rattle.pk_entries.proofs.Making.{place_put}
use Rattle.pk_entries.proofs.Numbers.{int_seen}
use Rattle.pk_entries.proofs.build.put_places.Goals as goal

pub loop-index-preserved : goal.loop-index-preserved
loop-index-preserved c =
    let low : c.loop-index.index-counter < length c.args.places.now = omega arith in
    let named : c.from-key.result ≡ decimal c.loop-index.index-counter =
    first_of (search rules, grind (arith, common_steps, rules)) in
    let z : ℤ = get_or c.args.places.now c.loop-index.index-counter (pos 0) in
    let same : cast_signed w32 (cast_unsigned w32 z) ≡ z = search rules in
    place_put c.args.places.now c.loop-index.index-counter z
    c.from-key.result (map entry c.loop-index.fields.items) (map entry c.in_ok-fields.fields.items) _ _ low refl named
    (int_seen _ ∙ ap int same) c.in_ok-fields.ensures c.loop-index.invariant
