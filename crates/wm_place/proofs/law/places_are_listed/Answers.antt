use Rattle.wm_place.proofs.OrderLemmas.{places_rise}
use Rattle.wm_place.proofs.PlaceLemmas.{all_listed, all_found}
use Rattle.wm_place.proofs.law.places_are_listed.Goals as goal

pub returns : goal.returns
returns c = record {
  listed = λ body p. (all_found body p, λ there. all_listed body p there.0 there.1);
  rise = places_rise;
}
