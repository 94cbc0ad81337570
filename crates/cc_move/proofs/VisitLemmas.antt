-- The visits of a body are those of its places that are reached, and their paths tell them.
use Rattle.std.proofs.Common.{◌≡◌, Option, Some, ap, ◌∙◌}
use Rattle.std.specs.List.{Contains}
use Rattle.wm_valid.specs.Typing.{Scope}
use Rattle.wm_valid.specs.Arrows.{◌>>=◌}
use Rattle.wm_place.specs.Place.{Place, places}
use Rattle.wm_place.specs.Spot.{Sequence, Spot, spot_at}
use Rattle.wm_place.specs.Visit.{Visit, visit_spot, visit_of, visits}
use Rattle.wm_place.proofs.PlaceLemmas.{all_listed}
use Rattle.cc_cut.proofs.ListLemmas.{contains, among, in_filter}
use Rattle.cc_cut.proofs.VisitLemmas as cuts

module _ (S : Scope) (body : Sequence) where
  -- a place that is reached has its visit
  seen : (p : Place) (x : Spot) (v : Visit) → spot_at body p ≡ Some x → visit_spot S p x ≡ Some v → visit_of S body p ≡ Some v
  seen p x v e k = ap (λ (o : Option Spot). o >>= visit_spot S p) e ∙ k

  pub listed : (p : Place) (x : Spot) (v : Visit) → spot_at body p ≡ Some x → visit_spot S p x ≡ Some v → Contains (visits S body) v
  listed p x v e k = contains (visits S body) v (in_filter (visit_of S body) (places body.code) p v (among (places body.code) p (all_listed body p x e)) (seen p x v e k))

  -- the path of a visit tells it
  pub same_visit : (v w : Visit) → Contains (visits S body) v → Contains (visits S body) w → v.path ≡ w.path → v ≡ w
  same_visit v w h g e = cuts.same_visit S body v w (among (visits S body) v h) (among (visits S body) w g) e
