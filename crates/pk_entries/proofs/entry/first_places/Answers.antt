use Rattle.std.proofs.Common.{◌≡◌, ◌<◌, ◌≤◌, ◌++◌, [], ◌∷◌, min, ap, ◌∙◌, arith, rules}
use Rattle.std.specs.Fmt.{decimal}
use Rattle.std.specs.Int.{w32, cast_signed, cast_unsigned}
use Rattle.std.proofs.lemmas.Grind.{common_steps}
use Rattle.mc_nbt.specs.View.{view}
use Rattle.cc_line.specs.Place.{score_places}
use Rattle.pk_entries.proofs.Entries.{one_more, all_first}
use Rattle.pk_entries.proofs.entry.first_places.Goals as goal

pub loop-place-init : goal.loop-place-init
loop-place-init c = λ b e. c.new-places.ensures.items

pub loop-place-preserved : goal.loop-place-preserved
loop-place-preserved c =
    let low : c.loop-place.place-counter < c.min-saved.result = omega arith in
    let named : c.as_str.result.now ≡ decimal c.loop-place.place-counter =
    first_of (search rules, grind (arith, common_steps, rules)) in
    let same : cast_signed w32 (cast_unsigned w32 c.int_under.result) ≡ c.int_under.result = search rules in
    one_more (view c.args.tree.now) c.min-saved.result c.loop-place.place-counter c.as_str.result.now c.int_under.result
    c.loop-place.places.items c.push.new.self.items low
    (c.min-saved.ensures ∙ ap (λ n. min n score_places) c.number_under.ensures) named c.int_under.ensures
    (c.in_ok-push.ensures.items ∙ ap (λ z. c.loop-place.places.items ++ (z ∷ [])) same) c.loop-place.invariant

pub returns : goal.returns
returns c =
    let most : c.loop-place.place-counter ≤ c.min-saved.result = omega arith in
    let least : c.min-saved.result ≤ c.loop-place.place-counter = omega arith in
    all_first (view c.args.tree.now) c.min-saved.result c.loop-place.place-counter c.loop-place.places.items most least
    (c.min-saved.ensures ∙ ap (λ n. min n score_places) c.number_under.ensures) c.loop-place.invariant
