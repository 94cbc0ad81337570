use Rattle.std.proofs.Common.{◌≡◌, ℕ, List, [], ◌∷◌, ◌++◌, ◌∙◌, ap, sym, arith, rules}
use Rattle.std.proofs.lemmas.Grind.{common_steps}
use Rattle.mc_world.specs.WorldView.{seen}
use Rattle.cc_line.specs.Place.{place_name}
use Rattle.pk_sight.proofs.ShownLemmas.{scores_push}
use Rattle.pk_sight.proofs.frame.first_places.Goals as goal

pub loop-place-preserved : goal.loop-place-preserved
loop-place-preserved c =
    let set : c.score.result ≡ (seen c.args.world.now).scores (place_name c.loop-place.place) c.args.names.now.ns =
    c.score.ensures ∙ ap (λ h. (seen c.args.world.now).scores h c.args.names.now.ns) c.in_ok-holder.ensures in
    let scores = λ (h : List ℕ). (seen c.args.world.now).scores h c.args.names.now.ns in
    let pushed : c.push.new.self.items ≡ c.loop-place.places.items ++ c.in-Some.z ∷ [] = search rules in
    record {
      read = grind (arith, common_steps);
      scores = scores_push scores _ _ _ c.in-Some.z pushed c.loop-place.invariant.read c.loop-place.invariant.scores (sym set ∙ c.in-Some.is);
    }
