-- The visits of a body are those of its places that are reached.
use Rattle.std.proofs.Common.{◌≡◌, List, reverse, Option, Some, option_map, sym, ap, ◌∙◌}
use Rattle.wm_ast.specs.declared.module.ValType.{ValType}
use Rattle.wm_valid.specs.Typing.{Scope}
use Rattle.wm_valid.specs.Arrows.{◌>>=◌}
use Rattle.wm_valid.proofs.OperandLaws.{bind_some}
use Rattle.wm_place.specs.Place.{Place, path_of, place_of, places}
use Rattle.wm_place.specs.Spot.{Sequence, Spot, spot_at}
use Rattle.wm_place.specs.Kinds.{spot_kinds}
use Rattle.wm_place.specs.Visit.{blocks_of, Visit, visit, visit_spot, visit_of, visits}
use Rattle.wm_place.proofs.LevelLemmas.{map_some}
use Rattle.wm_place.proofs.PathLemmas.{told}
use Rattle.wm_place.proofs.PlaceLemmas.{all_listed}
use Rattle.cc_cut.proofs.ListLemmas.{In, among, some_of, in_filter, filter_in}

-- the visit of a place, where these operands stand, the last one first
abbrev pub visit_at : Scope → Place → Spot → List ValType → Visit
visit_at S p x ts = visit (path_of p) (reverse ts) (blocks_of S x.levels) x.before x.code

module _ (S : Scope) (body : Sequence) where
  pub record Visited (v : Visit) : Type 0 where
    pub place : Place
    pub spot : Spot
    pub kinds : List ValType
    pub there : spot_at body place ≡ Some spot
    pub reached : spot_kinds S spot ≡ Some kinds
    pub is : visit_at S place spot kinds ≡ v

  -- a place that is reached has its visit
  pub seen : (p : Place) (x : Spot) (ts : List ValType) → spot_at body p ≡ Some x → spot_kinds S x ≡ Some ts → visit_of S body p ≡ Some (visit_at S p x ts)
  seen p x ts e k =
      ap (λ (o : Option Spot). o >>= visit_spot S p) e
      ∙ ap (λ (o : Option (List ValType)). option_map (λ us. visit (path_of p) (reverse us) (blocks_of S x.levels) x.before x.code) o) k

  pub shown : (p : Place) (x : Spot) (ts : List ValType) → spot_at body p ≡ Some x → spot_kinds S x ≡ Some ts → In (visit_at S p x ts) (visits S body)
  shown p x ts e k = in_filter (visit_of S body) (places body.code) p (visit_at S p x ts) (among (places body.code) p (all_listed body p x e)) (seen p x ts e k)

  pub visited : (v : Visit) → In v (visits S body) → Visited v
  visited v h =
      let w = filter_in (visit_of S body) (places body.code) v h in
      let a = bind_some (spot_at body w.0) (visit_spot S w.0) v w.2 in
      let b = map_some (λ ts. visit (path_of w.0) (reverse ts) (blocks_of S a.0.levels) a.0.before a.0.code) (spot_kinds S a.0) v a.2 in
      record { place = w.0; spot = a.0; kinds = b.0; there = a.1; reached = b.1; is = b.2 }

  -- the path of a visit that is found
  pub found_path : (p : Place) (v : Visit) → visit_of S body p ≡ Some v → v.path ≡ path_of p
  found_path p v e =
      let a = bind_some (spot_at body p) (visit_spot S p) v e in
      let b = map_some (λ ts. visit (path_of p) (reverse ts) (blocks_of S a.0.levels) a.0.before a.0.code) (spot_kinds S a.0) v a.2 in
      ap (λ (y : Visit). y.path) (sym b.2)

  -- the path of a visit tells it
  pub same_visit : (v w : Visit) → In v (visits S body) → In w (visits S body) → v.path ≡ w.path → v ≡ w
  same_visit v w h g e =
      let a : Visited v = visited v h in
      let b : Visited w = visited w g in
      let paths : path_of a.place ≡ path_of b.place = ap (λ (y : Visit). y.path) a.is ∙ (e ∙ sym (ap (λ (y : Visit). y.path) b.is)) in
      let places_are : Some a.place ≡ Some b.place = sym (told body a.place a.spot a.there) ∙ (ap (place_of body.code) paths ∙ told body b.place b.spot b.there) in
      let first : visit_of S body a.place ≡ Some v = seen a.place a.spot a.kinds a.there a.reached ∙ ap Some a.is in
      let second : visit_of S body b.place ≡ Some w = seen b.place b.spot b.kinds b.there b.reached ∙ ap Some b.is in
      some_of v w (sym first ∙ (ap (visit_of S body) (some_of a.place b.place places_are) ∙ second))
