-- What the cuts of a function are.
use Rattle.std.proofs.Common.{◌≡◌, ℕ, suc, ◌+◌, ◌≤◌, inl, inr, List, [], ◌∷◌, map, reverse, Option, Some, None, option_map, refl, sym, ap, ◌∙◌, subst, arith}
use Rattle.std.specs.Prelude.{slice_get}
use Rattle.std.specs.List.{Contains, filter_map}
use Rattle.wm_ast.specs.declared.module.ValType.{ValType}
use Rattle.wm_ast.specs.declared.module.Module.{Module}
use Rattle.wm_valid.specs.Place.{AreKinds}
use Rattle.wm_valid.specs.Valid.{Valid}
use Rattle.wm_valid.specs.Typing.{Scope}
use Rattle.wm_valid.specs.Arrows.{◌>>=◌}
use Rattle.wm_place.specs.Place.{path_of}
use Rattle.wm_place.specs.Spot.{Spot}
use Rattle.wm_place.specs.Kinds.{Body, function_body, spot_kinds, kinds_at, function_kinds}
use Rattle.wm_place.specs.Visit.{Visit, visits, function_visits}
use Rattle.wm_place.proofs.KindLemmas.{kinds_by_place}
use Rattle.wm_place.proofs.LevelLemmas.{map_some}
use Rattle.cc_cut.specs.declared.table.Cut.{Cut}
use Rattle.cc_cut.specs.Way.{all_ways}
use Rattle.cc_cut.specs.Cost.{full}
use Rattle.cc_cut.specs.Piece.{Piece, places_in, pieces, function_pieces, index_of}
use Rattle.cc_cut.specs.Cuts.{cut_for, cuts_from, cuts_in, body_cuts, function_cuts}
use Rattle.cc_cut.specs.Law.{weight_of}
use Rattle.cc_cut.proofs.ListLemmas.{In, contains, among, in_get, filter_in}
use Rattle.cc_cut.proofs.VisitLemmas.{Visited, visited}
use Rattle.cc_cut.proofs.PieceLemmas.{cut_among, pieces_fit}
use Rattle.cc_cut.proofs.IndexLemmas.{visits_rise, pieces_rise, index_at, Named, index_tells}
use Rattle.cc_cut.proofs.CostLemmas.{place_light}
use Rattle.cc_cut.proofs.CutLemmas.{cut_get, moved}

-- a cut of pieces is that of one of them
pub cut_of_piece : (n : ℕ) (S : Scope) (all : List Piece) (k : ℕ) (ps : List Piece) (c : Cut) → In c (cuts_from n S all k ps) → (j : ℕ) × (p : Piece) × In p ps × (cut_for n S all j p ≡ c)
cut_of_piece n S all k [] c h = absurd h
cut_of_piece n S all k (p ∷ ps) c (inl e) = (k, p, inl refl, e)
cut_of_piece n S all k (p ∷ ps) c (inr h) = let w = cut_of_piece n S all (suc k) ps c h in (w.0, w.1, inr w.2, w.3)

-- what holds of the cuts of each body holds of the cuts of each function
pub by_body : (m : Module) (n : ℕ) (P : List Cut → Type 0) → P [] → ((b : Body) → function_body m n ≡ Some b → P (function_cuts m n)) → P (function_cuts m n)
by_body m n P none some = by_found (function_body m n) refl
  where
    by_found : (o : Option Body) → function_body m n ≡ o → P (function_cuts m n)
    by_found None e = subst P (sym (ap (body_cuts n) e)) none
    by_found (Some b) e = some b e

no_cut : (c : Cut) → Contains [] c → ⊥
no_cut c h = among [] c h

-- ---- operands

-- the place of a visit, and its operands
pub visit_kinds : (m : Module) → Valid m → (n : ℕ) (b : Body) → function_body m n ≡ Some b → (v : Visit) → In v (visits b.scope b.sequence) → AreKinds m n v.path (Some v.kinds)
visit_kinds m valid n b e v h =
    let a : Visited b.scope b.sequence v = visited b.scope b.sequence v h in
    let kinds : function_kinds m n a.place ≡ Some a.kinds =
    ap (λ (o : Option Body). o >>= λ y. kinds_at y.scope y.sequence a.place) e ∙ (ap (λ (o : Option Spot). o >>= spot_kinds b.scope) a.there ∙ a.reached) in
    let here : AreKinds m n (path_of a.place) (option_map reverse (function_kinds m n a.place)) = kinds_by_place m valid n a.place (b, e, a.spot, a.there) in
    subst (λ (y : Visit). AreKinds m n y.path (Some y.kinds)) a.is
    (subst (λ (o : Option (List ValType)). AreKinds m n (path_of a.place) (option_map reverse o)) kinds here)

pub layouts_are : (m : Module) → Valid m → (n : ℕ) (c : Cut) → Contains (function_cuts m n) c → AreKinds m n c.place (Some c.layout)
layouts_are m valid n c =
    by_body m n (λ cs. Contains cs c → AreKinds m n c.place (Some c.layout)) (λ h. absurd (no_cut c h))
    (λ b e. moved m n b e (λ vs cs. Contains cs c → AreKinds m n c.place (Some c.layout))
    (λ h.
    let vs : List Visit = visits b.scope b.sequence in
    let w = cut_of_piece n b.scope (pieces vs) 1 (pieces vs) c (among (cuts_in n b.scope vs) c h) in
    subst (λ (x : Cut). AreKinds m n x.place (Some x.layout)) w.3 (visit_kinds m valid n b e w.1.cut (cut_among vs 0 w.1 w.2))))

-- ---- indices

pub cuts_are_of_pieces : (m : Module) (n : ℕ) (b : Body) → function_body m n ≡ Some b → (i : ℕ)
    → ((p : Piece) → slice_get (function_pieces m n) i ≡ Some p → slice_get (function_cuts m n) i ≡ Some (cut_for n b.scope (function_pieces m n) (suc i) p))
    × ((c : Cut) → slice_get (function_cuts m n) i ≡ Some c → (p : Piece) × (slice_get (function_pieces m n) i ≡ Some p) × (c ≡ cut_for n b.scope (function_pieces m n) (suc i) p))
cuts_are_of_pieces m n b e i =
    moved m n b e (λ vs cs. ((p : Piece) → slice_get (pieces vs) i ≡ Some p → slice_get cs i ≡ Some (cut_for n b.scope (pieces vs) (suc i) p))
    × ((c : Cut) → slice_get cs i ≡ Some c → (p : Piece) × (slice_get (pieces vs) i ≡ Some p) × (c ≡ cut_for n b.scope (pieces vs) (suc i) p)))
    (let ps : List Piece = pieces (visits b.scope b.sequence) in (
      (λ p h. cut_get n b.scope ps i ∙ ap (option_map (cut_for n b.scope ps (suc i))) h),
      (λ c h. let w = map_some (cut_for n b.scope ps (suc i)) (slice_get ps i) c (sym (cut_get n b.scope ps i) ∙ h) in (w.0, w.1, sym w.2)),
    ))

pub places_tell : (m : Module) (n i : ℕ) (c : Cut) → slice_get (function_cuts m n) i ≡ Some c → index_of (function_pieces m n) c.place ≡ Some (suc i)
places_tell m n i c =
    by_body m n (λ cs. slice_get cs i ≡ Some c → index_of (function_pieces m n) c.place ≡ Some (suc i)) (λ h. absurd cc)
    (λ b e. moved m n b e (λ vs cs. slice_get cs i ≡ Some c → index_of (pieces vs) c.place ≡ Some (suc i))
    (λ h.
    let vs : List Visit = visits b.scope b.sequence in
    let ps : List Piece = pieces vs in
    let w = map_some (cut_for n b.scope ps (suc i)) (slice_get ps i) c (sym (cut_get n b.scope ps i) ∙ h) in
    let sum : 1 + i ≡ suc i = omega arith in
    subst (λ (x : Cut). index_of ps x.place ≡ Some (suc i)) w.2 (index_at ps 1 i w.0 (pieces_rise vs 0 (visits_rise b.scope b.sequence)) w.1 ∙ ap Some sum)))

pub exits_are : (m : Module) (n : ℕ) (c : Cut) → Contains (function_cuts m n) c → (j : ℕ) → Contains c.exits j → (d : Cut) × Contains (function_cuts m n) d × (d.index ≡ j)
exits_are m n c =
    by_body m n (λ cs. Contains cs c → (j : ℕ) → Contains c.exits j → (d : Cut) × Contains cs d × (d.index ≡ j)) (λ h. absurd (no_cut c h))
    (λ b e. moved m n b e (λ vs cs. Contains cs c → (j : ℕ) → Contains c.exits j → (d : Cut) × Contains cs d × (d.index ≡ j))
    (λ h j x.
    let vs : List Visit = visits b.scope b.sequence in
    let ps : List Piece = pieces vs in
    let cs : List Cut = cuts_in n b.scope vs in
    let w = cut_of_piece n b.scope ps 1 ps c (among cs c h) in
    let there : In j (filter_map (index_of ps) (map (λ y. y.to) (all_ways b.scope (places_in w.1)))) = subst (λ (y : Cut). In j y.exits) (sym w.3) (among c.exits j x) in
    let a = filter_in (index_of ps) (map (λ y. y.to) (all_ways b.scope (places_in w.1))) j there in
    let q : Named ps 1 a.0 j = index_tells ps 1 a.0 j a.2 in
    let d : Cut = cut_for n b.scope ps (suc q.at) q.piece in
    let is : j ≡ 1 + q.at = q.is in
    let index : suc q.at ≡ j = omega arith in
    (d, contains cs d (in_get cs q.at d (cut_get n b.scope ps q.at ∙ ap (option_map (cut_for n b.scope ps (suc q.at))) q.there)), index)))

-- ---- weights

pub all_fit : (m : Module) (n : ℕ) (p : Piece) → Contains (function_pieces m n) p → weight_of (places_in p) ≤ full
all_fit m n p h = pieces_fit place_light (function_visits m n) 0 p (among (function_pieces m n) p h)
