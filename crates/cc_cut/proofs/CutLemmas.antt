-- Pieces of a valid module lead to their exits and nowhere else.
use Rattle.std.proofs.Common.{◌≡◌, ℕ, zero, suc, ◌+◌, ◌⊎◌, inl, inr, List, [], ◌∷◌, map, reverse, true, false, Option, Some, option_map, refl, sym, ap, ◌∙◌, subst, arith}
use Rattle.std.specs.Prelude.{slice_get}
use Rattle.std.specs.List.{Contains}
use mathlib.Core.Logic.{⊎_elim}
use Rattle.wm_ast.specs.declared.module.Func.{Func}
use Rattle.wm_ast.specs.declared.module.Module.{Module}
use Rattle.wm_ast.specs.Code.{nil}
use Rattle.wm_ast.specs.Types.{function_type}
use Rattle.wm_valid.specs.Valid.{Valid}
use Rattle.wm_valid.specs.Typing.{Scope}
use Rattle.wm_valid.proofs.OperandLaws.{bind_some}
use Rattle.wm_place.specs.Spot.{Sequence}
use Rattle.wm_place.specs.Kinds.{Body, body_of, function_body}
use Rattle.wm_place.specs.Visit.{Visit, visits, body_visits, function_visits}
use Rattle.wm_place.proofs.KindLemmas.{Typed, typed_function, scope_in, body_in}
use Rattle.wm_place.proofs.WalkLemmas.{way_is}
use Rattle.cc_cut.specs.declared.table.Cut.{Cut}
use Rattle.cc_cut.specs.Way.{Way, ways, all_ways}
use Rattle.cc_cut.specs.Piece.{place_cost, is_cut, Piece, places_in, up_to_cut, pieces_from, pieces, function_pieces, index_of}
use Rattle.cc_cut.specs.Cuts.{exits_from, cut_for, cuts_from, cuts_in, body_cuts, function_cuts}
use Rattle.cc_cut.specs.Law.{IsNext, AllLead}
use Rattle.cc_cut.proofs.ListLemmas.{In, in_left, in_right, contains, among, some_of, in_get, in_map, in_filter}
use Rattle.cc_cut.proofs.VisitLemmas.{visit_at, same_visit}
use Rattle.cc_cut.proofs.ChainLemmas.{Chain, chain_from}
use Rattle.cc_cut.proofs.WayLemmas.{Begun, met_in, ways_lead}
use Rattle.cc_cut.proofs.PieceLemmas.{by_bool, piece_at, by_cut, begun_has, cut_among}
use Rattle.cc_cut.proofs.IndexLemmas.{Named, index_tells, index_found}

-- ---- the cuts of pieces

pub cuts_get : (n : ℕ) (S : Scope) (all : List Piece) (k : ℕ) (ps : List Piece) (i : ℕ) → slice_get (cuts_from n S all k ps) i ≡ option_map (cut_for n S all (k + i)) (slice_get ps i)
cuts_get n S all k [] i = refl
cuts_get n S all k (p ∷ ps) zero = let sum : k ≡ k + zero = omega arith in ap (λ (j : ℕ). Some (cut_for n S all j p)) sum
cuts_get n S all k (p ∷ ps) (suc i) =
    let sum : suc k + i ≡ k + suc i = omega arith in
    cuts_get n S all (suc k) ps i ∙ ap (λ (j : ℕ). option_map (cut_for n S all j) (slice_get ps i)) sum

-- those of a body
pub cut_get : (n : ℕ) (S : Scope) (ps : List Piece) (i : ℕ) → slice_get (cuts_from n S ps 1 ps) i ≡ option_map (cut_for n S ps (suc i)) (slice_get ps i)
cut_get n S ps i =
    let sum : 1 + i ≡ suc i = omega arith in
    cuts_get n S ps 1 ps i ∙ ap (λ (j : ℕ). option_map (cut_for n S ps j) (slice_get ps i)) sum

-- what holds of a body's visits and cuts holds of the function's
pub moved : (m : Module) (n : ℕ) (b : Body) → function_body m n ≡ Some b → (P : List Visit → List Cut → Type 0) → P (visits b.scope b.sequence) (cuts_in n b.scope (visits b.scope b.sequence))
    → P (function_visits m n) (function_cuts m n)
moved m n b e P h =
    subst (λ (vs : List Visit). P vs (function_cuts m n)) (sym (ap body_visits e))
    (subst (λ (cs : List Cut). P (visits b.scope b.sequence) cs) (sym (ap (body_cuts n) e)) h)

-- there is a function with a typing
pub record Has (m : Module) (n : ℕ) (b : Body) : Type 0 where
  pub function : Func
  pub at : slice_get m.funcs n ≡ Some function
  pub typed : Typed m n function
  pub is : body_of m function typed.type ≡ b

pub has : (m : Module) → Valid m → (n : ℕ) (b : Body) → function_body m n ≡ Some b → Has m n b
has m v n b e =
    let w = bind_some (slice_get m.funcs n) (λ f. option_map (body_of m f) (function_type m f)) b e in
    let t : Typed m n w.0 = typed_function m n w.0 v w.1 in
    record { function = w.0; at = w.1; typed = t; is = some_of (body_of m w.0 t.type) b (sym t.body ∙ e) }

module _ (m : Module) (n : ℕ) (f : Func) (t : Typed m n f) where
  abbrev S : Scope
  S = scope_in m n f t

  abbrev root : Sequence
  root = body_in m n f t

  abbrev pub all_visits : List Visit
  all_visits = visits S root

  abbrev pub all_pieces : List Piece
  all_pieces = pieces all_visits

  pub in_chain : Chain S all_visits
  in_chain = subst (Chain S) (sym (way_is S root refl refl)) (chain_from S root.code [] [] 0 nil [] [])

  -- ---- where places lead

  abbrev WaysLead : List Visit → Type 0
  WaysLead [] = Unit {0}
  WaysLead (v ∷ vs) = ((w : Way) → In w (ways S v) → Begun m n f t w ⊎ IsNext vs w) × WaysLead vs

  all_lead : (vs : List Visit) → ((x : Visit) → In x vs → In x all_visits) → Chain S vs → WaysLead vs
  all_lead [] within h = tt
  all_lead (v ∷ vs) within h = (
    (λ w g. ways_lead m n f t v (within v (inl refl)) vs (λ x i. within x (inr i)) h.0 w g),
    all_lead vs (λ x i. within x (inr i)) h.1,
  )

  -- a piece to which the way leads
  pub record Target (w : Way) : Type 0 where
    pub piece : Piece
    pub there : In piece all_pieces
    pub path : piece.cut.path ≡ w.to
    pub kinds : piece.cut.kinds ≡ reverse w.kinds

  pub begun_target : (w : Way) → Begun m n f t w → Target w
  begun_target w b =
      let x : Visit = visit_at S b.met.place b.met.spot w.kinds in
      let p = begun_has all_visits 0 x (met_in m n f t w b.met) b.is_begun in
      record { piece = p.0; there = p.1; path = ap (λ (v : Visit). v.path) p.2 ∙ b.met.to; kinds = ap (λ (v : Visit). v.kinds) p.2 }

  abbrev Leads : List Visit → Type 0
  Leads [] = Unit {0}
  Leads (v ∷ vs) = ((w : Way) → In w (ways S v) → Target w ⊎ IsNext vs w) × Leads vs

  begun_or : (vs : List Visit) (w : Way) → (IsNext vs w → Target w) → Begun m n f t w ⊎ IsNext vs w → Target w
  begun_or vs w next h = ⊎_elim (λ (b : Begun m n f t w). begun_target w b) next h

  -- from a place of a piece on
  up_leads : (vs : List Visit) (spent : ℕ) (v : Visit) → WaysLead (v ∷ vs) → ((p : Piece) → In p (pieces_from spent vs) → In p all_pieces) → Leads (v ∷ up_to_cut spent vs)
  up_leads [] spent v h within = ((λ w g. inl (begun_or [] w (λ i. absurd i) (h.0 w g))), tt)
  up_leads (x ∷ xs) spent v h within =
      by_bool (is_cut spent x) [] (x ∷ up_to_cut (spent + place_cost x) xs) (λ ys. Leads (v ∷ ys))
      (λ c. (
        (λ w g. inl (begun_or (x ∷ xs) w
            (λ i. record { piece = piece_at x xs; there = within (piece_at x xs) (by_cut spent x xs (In (piece_at x xs)) (λ d. inl refl) (λ d. absurd (let z : true ≡ false = sym c ∙ d in cc))); path = i.0; kinds = i.1 })
            (h.0 w g))),
        tt,
      ))
      (λ c. (
        (λ w g. ⊎_elim (λ (b : Begun m n f t w). inl (begun_target w b)) (λ (i : IsNext (x ∷ xs) w). inr i) (h.0 w g)),
        up_leads xs (spent + place_cost x) x h.1
            (λ p i. within p (by_cut spent x xs (In p) (λ d. absurd (let z : true ≡ false = sym d ∙ c in cc)) (λ d. i))),
      ))

  pieces_lead : (vs : List Visit) (spent : ℕ) → WaysLead vs → ((p : Piece) → In p (pieces_from spent vs) → In p all_pieces) → (p : Piece) → In p (pieces_from spent vs) → Leads (places_in p)
  pieces_lead [] spent h within p i = absurd i
  pieces_lead (v ∷ vs) spent h within p i =
      by_cut spent v vs (λ ps. ((q : Piece) → In q ps → In q all_pieces) → In p ps → Leads (places_in p))
      (λ c among g. ⊎_elim
      (λ (e : piece_at v vs ≡ p). subst (λ (q : Piece). Leads (places_in q)) e (up_leads vs (place_cost v) v h (λ q j. among q (inr j))))
      (λ (j : In p (pieces_from (place_cost v) vs)). pieces_lead vs (place_cost v) h.1 (λ q k. among q (inr k)) p j) g)
      (λ c among g. pieces_lead vs (spent + place_cost v) h.1 among p g) within i

  -- ---- exits

  ways_in : (vs : List Visit) (v : Visit) (w : Way) → In v vs → In w (ways S v) → In w (all_ways S vs)
  ways_in [] v w h g = absurd h
  ways_in (x ∷ xs) v w (inl e) g = in_left w (ways S x) (all_ways S xs) (subst (λ (y : Visit). In w (ways S y)) (sym e) g)
  ways_in (x ∷ xs) v w (inr h) g = in_right w (ways S x) (all_ways S xs) (ways_in xs v w h g)

  abbrev cuts : List Cut
  cuts = cuts_in n S all_visits

  pub record Exit (exits : List ℕ) (w : Way) : Type 0 where
    pub cut : Cut
    pub is_cut : In cut cuts
    pub there : cut.place ≡ w.to
    pub met : cut.layout ≡ reverse w.kinds
    pub named : In cut.index exits

  exit_of : (vs : List Visit) (w : Way) → In w (all_ways S vs) → Target w → Exit (exits_from S all_pieces vs) w
  exit_of vs w h a =
      let j = index_found all_pieces 1 w.to a.piece a.there a.path in
      let q : Named all_pieces 1 w.to j.0 = index_tells all_pieces 1 w.to j.0 j.1 in
      let same : q.piece.cut ≡ a.piece.cut =
      same_visit S root q.piece.cut a.piece.cut (cut_among all_visits 0 q.piece (in_get all_pieces q.at q.piece q.there)) (cut_among all_visits 0 a.piece a.there) (q.same ∙ sym a.path) in
      let c : Cut = cut_for n S all_pieces (suc q.at) q.piece in
      let is : j.0 ≡ 1 + q.at = q.is in
      let index : j.0 ≡ suc q.at = omega arith in
      record {
        cut = c;
        is_cut = in_get cuts q.at c (cut_get n S all_pieces q.at ∙ ap (option_map (cut_for n S all_pieces (suc q.at))) q.there);
        there = q.same;
        met = ap (λ (v : Visit). v.kinds) same ∙ a.kinds;
        named = in_filter (index_of all_pieces) (map (λ y. y.to) (all_ways S vs)) w.to (suc q.at) (in_map (λ (y : Way). y.to) (all_ways S vs) w h) (j.1 ∙ ap Some index);
      }

  -- what leads from places of a piece
  abbrev pub AllExit : List ℕ → List Visit → Type 0
  AllExit exits [] = Unit {0}
  AllExit exits (v ∷ vs) = ((w : Way) → In w (ways S v) → Exit exits w ⊎ IsNext vs w) × AllExit exits vs

  exits_all : (vs whole : List Visit) → ((v : Visit) → In v vs → In v whole) → Leads vs → AllExit (exits_from S all_pieces whole) vs
  exits_all [] whole within h = tt
  exits_all (v ∷ vs) whole within h = (
    (λ w g. ⊎_elim (λ (a : Target w). inl (exit_of whole w (ways_in whole v w (within v (inl refl)) g) a)) (λ (i : IsNext vs w). inr i) (h.0 w g)),
    exits_all vs whole (λ x i. within x (inr i)) h.1,
  )

  pub piece_exits : (p : Piece) → In p all_pieces → AllExit (exits_from S all_pieces (places_in p)) (places_in p)
  piece_exits p i = exits_all (places_in p) (places_in p) (λ v h. h) (pieces_lead all_visits 0 (all_lead all_visits (λ x h. h) in_chain) (λ q h. h) p i)

-- ---- in the words of the law

module _ (m : Module) (n : ℕ) (f : Func) (t : Typed m n f) where
  same_cuts : function_cuts m n ≡ cuts m n f t
  same_cuts = ap (body_cuts n) t.body

  law_exits : (exits : List ℕ) (vs : List Visit) → AllExit m n f t exits vs → AllLead m n (scope_in m n f t) exits vs
  law_exits exits [] h = tt
  law_exits exits (v ∷ vs) h = (
    (λ w g. ⊎_elim
        (λ (x : Exit m n f t exits w). inl (record {
          cut = x.cut;
          is_cut = subst (λ (cs : List Cut). Contains cs x.cut) (sym same_cuts) (contains (cuts m n f t) x.cut x.is_cut);
          there = x.there;
          met = x.met;
          named = contains exits x.cut.index x.named;
        }))
        (λ (i : IsNext vs w). inr i)
        (h.0 w (among (ways (scope_in m n f t) v) w g))),
    law_exits exits vs h.1,
  )

  pub function_leads : (p : Piece) → Contains (function_pieces m n) p → AllLead m n (scope_in m n f t) (exits_from (scope_in m n f t) (function_pieces m n) (places_in p)) (places_in p)
  function_leads p h =
      let same : function_pieces m n ≡ all_pieces m n f t = ap (λ (o : Option Body). pieces (body_visits o)) t.body in
      let there : In p (all_pieces m n f t) = among (all_pieces m n f t) p (subst (λ (ps : List Piece). Contains ps p) same h) in
      subst (λ (ps : List Piece). AllLead m n (scope_in m n f t) (exits_from (scope_in m n f t) ps (places_in p)) (places_in p)) (sym same)
      (law_exits (exits_from (scope_in m n f t) (all_pieces m n f t) (places_in p)) (places_in p) (piece_exits m n f t p there))

pub pieces_lead_on : (m : Module) → Valid m → (n : ℕ) (b : Body) → function_body m n ≡ Some b → (p : Piece)
    → Contains (function_pieces m n) p → AllLead m n b.scope (exits_from b.scope (function_pieces m n) (places_in p)) (places_in p)
pieces_lead_on m v n b e p h =
    let w : Has m n b = has m v n b e in
    subst (λ (y : Body). AllLead m n y.scope (exits_from y.scope (function_pieces m n) (places_in p)) (places_in p)) w.is (function_leads m n w.function w.typed p h)
