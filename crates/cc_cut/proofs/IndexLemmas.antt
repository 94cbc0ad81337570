-- Paths of visits rise, so each index is found by the path of its cut.
use Rattle.std.proofs.Common.{◌≡◌, ℕ, zero, suc, ◌+◌, ◌<◌, inl, inr, List, [], ◌∷◌, length, Bool, true, false, Option, Some, None, refl, sym, ap, ◌∙◌, subst, arith}
use Rattle.std.specs.Prelude.{if◌then◌else◌, ◌&&◌, nat_eq, slice_get, slice_index_or}
use Rattle.std.specs.List.{AllPairs, filter_map, cons_option}
use Rattle.std.specs.Cmp.Lexicographic.{pointwise}
use Rattle.std.proofs.lemmas.Bool.{cases_Bool, eqb-true, eq-eqb}
use mathlib.Core.Logic.{⊎_elim}
use Rattle.wm_valid.specs.Typing.{Scope}
use Rattle.wm_place.specs.Place.{Place, path_of, places, IsBefore}
use Rattle.wm_place.specs.Spot.{Sequence}
use Rattle.wm_place.specs.Visit.{Visit, visit_of, visits}
use Rattle.wm_place.proofs.OrderLemmas.{Before, places_rise}
use Rattle.cc_cut.specs.Piece.{place_cost, is_cut, Piece, up_to_cut, pieces_from, or_else, index_from}
use Rattle.cc_cut.proofs.ListLemmas.{In, some_of, get_in, filter_in}
use Rattle.cc_cut.proofs.VisitLemmas.{found_path}
use Rattle.cc_cut.proofs.PieceLemmas.{by_bool, piece_at, by_cut, cut_among}

-- ---- paths

pub same_self : (p : List ℕ) → pointwise nat_eq p p ≡ true
same_self [] = refl
same_self (i ∷ p) = let e = eq-eqb i i refl in let r = same_self p in rw (e, r) refl

and_true : (a b : Bool) → (a && b) ≡ true → (a ≡ true) × (b ≡ true)
and_true true b e = (refl, e)
and_true false b e = absurd cc

pub same_is : (p q : List ℕ) → pointwise nat_eq p q ≡ true → p ≡ q
same_is [] [] e = refl
same_is [] (j ∷ q) e = absurd cc
same_is (i ∷ p) [] e = absurd cc
same_is (i ∷ p) (j ∷ q) e =
    let a = and_true (nat_eq i j) (pointwise nat_eq p q) e in
    ap (λ (k : ℕ). k ∷ p) (eqb-true i j a.0) ∙ ap (λ (l : List ℕ). j ∷ l) (same_is p q a.1)

never_before : (p : List ℕ) → IsBefore p p → ⊥
never_before [] h = h
never_before (i ∷ p) (inl l) = let low : i < i = l in absurd (omega arith)
never_before (i ∷ p) (inr h) = never_before p h.1

apart : (p q : List ℕ) → IsBefore p q → pointwise nat_eq q p ≡ false
apart p q h =
    ⊎_elim (λ (e : pointwise nat_eq q p ≡ true). absurd (never_before p (subst (λ (l : List ℕ). IsBefore p l) (same_is q p e) h))) (λ (e : pointwise nat_eq q p ≡ false). e)
    (cases_Bool (pointwise nat_eq q p))

-- ---- visits rise

abbrev pub Rises : List Visit → Type 0
Rises [] = Unit {0}
Rises (v ∷ vs) = ((w : Visit) → In w vs → IsBefore v.path w.path) × Rises vs

index_is : {A : Type 0} (xs : List A) (i : ℕ) (y d : A) → slice_get xs i ≡ Some y → slice_index_or xs i d ≡ y
index_is [] i y d e = absurd cc
index_is (x ∷ xs) zero y d e = some_of x y e
index_is (x ∷ xs) (suc i) y d e = index_is xs i y d e

get_short : {A : Type 0} (xs : List A) (i : ℕ) (y : A) → slice_get xs i ≡ Some y → i < length xs
get_short [] i y e = absurd cc
get_short (x ∷ xs) zero y e = omega arith
get_short (x ∷ xs) (suc i) y e = let l : i < length xs = get_short xs i y e in omega arith

first_pairs : {A : Type 0} (R : A → A → Type 0) (x : A) (xs : List A) → AllPairs R (x ∷ xs) → (y : A) → In y xs → R x y
first_pairs R x xs h y i =
    let w = get_in xs y i in
    let short : w.0 < length xs = get_short xs w.0 y w.1 in
    subst (λ z. R x z) (index_is xs w.0 y x w.1) (h 0 (suc w.0) x (omega arith) (omega arith))

other_pairs : {A : Type 0} (R : A → A → Type 0) (x : A) (xs : List A) → AllPairs R (x ∷ xs) → AllPairs R xs
other_pairs R x xs h = λ i j d l short. h (suc i) (suc j) d (omega arith) (omega arith)

module _ (S : Scope) (body : Sequence) where
  rises : (ps : List Place) → AllPairs Before ps → Rises (filter_map (visit_of S body) ps)
  rises [] h = tt
  rises (p ∷ ps) h = by_found (visit_of S body p) refl (rises ps (other_pairs Before p ps h))
    where
      by_found : (o : Option Visit) → visit_of S body p ≡ o → Rises (filter_map (visit_of S body) ps) → Rises (cons_option o (filter_map (visit_of S body) ps))
      by_found None e r = r
      by_found (Some v) e r = (
        (λ w i.
            let z = filter_in (visit_of S body) ps w i in
            let b : Before p z.0 = first_pairs Before p ps h z.0 z.1 in
            subst (λ (l : List ℕ). IsBefore l w.path) (sym (found_path S body p v e))
            (subst (λ (l : List ℕ). IsBefore (path_of p) l) (sym (found_path S body z.0 w z.2)) b)),
        r,
      )

  pub visits_rise : Rises (visits S body)
  visits_rise = rises (places body.code) (places_rise body.code)

-- ---- pieces rise

abbrev pub PiecesRise : List Piece → Type 0
PiecesRise [] = Unit {0}
PiecesRise (p ∷ ps) = ((q : Piece) → In q ps → IsBefore p.cut.path q.cut.path) × PiecesRise ps

pub pieces_rise : (vs : List Visit) (spent : ℕ) → Rises vs → PiecesRise (pieces_from spent vs)
pieces_rise [] spent h = tt
pieces_rise (v ∷ vs) spent h =
    by_cut spent v vs PiecesRise
    (λ c. ((λ q i. h.0 q.cut (cut_among vs (place_cost v) q i)), pieces_rise vs (place_cost v) h.1))
    (λ c. pieces_rise vs (spent + place_cost v) h.1)

-- the other places of pieces have no cuts

pub up_among : (vs : List Visit) (spent : ℕ) (x : Visit) → In x (up_to_cut spent vs) → In x vs
up_among [] spent x h = absurd h
up_among (v ∷ vs) spent x h =
    by_bool (is_cut spent v) [] (v ∷ up_to_cut (spent + place_cost v) vs) (λ ys. In x ys → In x (v ∷ vs)) (λ c g. absurd g)
    (λ c g. ⊎_elim (λ (e : v ≡ x). inl e) (λ (i : In x (up_to_cut (spent + place_cost v) vs)). inr (up_among vs (spent + place_cost v) x i)) g) h

others_among : (vs : List Visit) (spent : ℕ) (p : Piece) (x : Visit) → In p (pieces_from spent vs) → In x p.others → In x vs
others_among [] spent p x h i = absurd h
others_among (v ∷ vs) spent p x h i =
    by_cut spent v vs (λ ps. In p ps → In x (v ∷ vs))
    (λ c g. ⊎_elim (λ (e : piece_at v vs ≡ p). inr (up_among vs (place_cost v) x (subst (λ (q : Piece). In x q.others) (sym e) i)))
    (λ (j : In p (pieces_from (place_cost v) vs)). inr (others_among vs (place_cost v) p x j i)) g)
    (λ c g. inr (others_among vs (spent + place_cost v) p x g i)) h

-- the next cuts stand behind them
cuts_behind : (vs : List Visit) (spent : ℕ) → Rises vs → (x : Visit) → In x (up_to_cut spent vs) → (q : Piece) → In q (pieces_from spent vs) → IsBefore x.path q.cut.path
cuts_behind [] spent h x i q j = absurd i
cuts_behind (v ∷ vs) spent h x i q j = by_test (is_cut spent v) i j (λ a b. cuts_behind vs (spent + place_cost v) h.1 x a q b)
  where
    by_test : (b : Bool) → In x (if b then [] else v ∷ up_to_cut (spent + place_cost v) vs) → In q (if b then piece_at v vs ∷ pieces_from (place_cost v) vs else pieces_from (spent + place_cost v) vs)
        → (In x (up_to_cut (spent + place_cost v) vs) → In q (pieces_from (spent + place_cost v) vs) → IsBefore x.path q.cut.path) → IsBefore x.path q.cut.path
    by_test true i j deeper = absurd i
    by_test false (inl e) j deeper = subst (λ (y : Visit). IsBefore y.path q.cut.path) e (h.0 q.cut (cut_among vs (spent + place_cost v) q j))
    by_test false (inr i) j deeper = deeper i j

pub other_path : (vs : List Visit) (spent : ℕ) → Rises vs → (p : Piece) → In p (pieces_from spent vs) → (x : Visit) → In x p.others → (q : Piece) → In q (pieces_from spent vs) → x.path ≡ q.cut.path → ⊥
other_path [] spent h p i x o q j e = absurd i
other_path (v ∷ vs) spent h p i x o q j e =
    by_cut spent v vs (λ ps. In p ps → In q ps → ⊥)
    (λ c i j. ⊎_elim
    (λ (s : piece_at v vs ≡ p).
    let own : In x (up_to_cut (place_cost v) vs) = subst (λ (r : Piece). In x r.others) (sym s) o in
    ⊎_elim (λ (r : piece_at v vs ≡ q). first x (up_among vs (place_cost v) x own) e r)
    (λ (r : In q (pieces_from (place_cost v) vs)). never_before q.cut.path (subst (λ (l : List ℕ). IsBefore l q.cut.path) e (cuts_behind vs (place_cost v) h.1 x own q r))) j)
    (λ (s : In p (pieces_from (place_cost v) vs)).
    ⊎_elim (λ (r : piece_at v vs ≡ q). first x (others_among vs (place_cost v) p x s o) e r)
    (λ (r : In q (pieces_from (place_cost v) vs)). other_path vs (place_cost v) h.1 p s x o q r e) j) i)
    (λ c i j. other_path vs (spent + place_cost v) h.1 p i x o q j e) i j
  where
    first : (z : Visit) → In z vs → z.path ≡ q.cut.path → piece_at v vs ≡ q → ⊥
    first z i same r = never_before v.path (subst (λ (l : List ℕ). IsBefore v.path l) (same ∙ ap (λ (k : Piece). k.cut.path) (sym r)) (h.0 z i))

-- ---- indices

no_index : (ps : List Piece) (k : ℕ) (path : List ℕ) → ((q : Piece) → In q ps → pointwise nat_eq q.cut.path path ≡ false) → index_from k ps path ≡ None
no_index [] k path h = refl
no_index (p ∷ ps) k path h =
    let none : index_from (suc k) ps path ≡ None = no_index ps (suc k) path (λ q i. h q (inr i)) in
    let other : pointwise nat_eq p.cut.path path ≡ false = h p (inl refl) in
    ap (λ (o : Option ℕ). or_else o (if pointwise nat_eq p.cut.path path then Some k else None)) none ∙ ap (λ (b : Bool). if b then Some k else None) other

-- the index of a piece is found
pub index_at : (ps : List Piece) (k i : ℕ) (p : Piece) → PiecesRise ps → slice_get ps i ≡ Some p → index_from k ps p.cut.path ≡ Some (k + i)
index_at [] k i p h e = absurd cc
index_at (q ∷ ps) k zero p h e =
    let same : q ≡ p = some_of q p e in
    let none : index_from (suc k) ps p.cut.path ≡ None =
    no_index ps (suc k) p.cut.path (λ r i. subst (λ (x : Piece). pointwise nat_eq r.cut.path x.cut.path ≡ false) same (apart q.cut.path r.cut.path (h.0 r i))) in
    let own : pointwise nat_eq q.cut.path p.cut.path ≡ true = ap (λ (x : Piece). pointwise nat_eq x.cut.path p.cut.path) same ∙ same_self p.cut.path in
    let sum : k ≡ k + zero = omega arith in
    ap (λ (o : Option ℕ). or_else o (if pointwise nat_eq q.cut.path p.cut.path then Some k else None)) none ∙ (ap (λ (b : Bool). if b then Some k else None) own ∙ ap Some sum)
index_at (q ∷ ps) k (suc i) p h e =
    let sum : suc k + i ≡ k + suc i = omega arith in
    ap (λ (o : Option ℕ). or_else o (if pointwise nat_eq q.cut.path p.cut.path then Some k else None)) (index_at ps (suc k) i p h.1 e) ∙ ap Some sum

-- an index that is found is that of a piece at this path
pub record Named (ps : List Piece) (k : ℕ) (path : List ℕ) (j : ℕ) : Type 0 where
  pub at : ℕ
  pub is : j ≡ k + at
  pub piece : Piece
  pub there : slice_get ps at ≡ Some piece
  pub same : piece.cut.path ≡ path

pub index_tells : (ps : List Piece) (k : ℕ) (path : List ℕ) (j : ℕ) → index_from k ps path ≡ Some j → Named ps k path j
index_tells [] k path j e = absurd cc
index_tells (p ∷ ps) k path j e = by_rest (index_from (suc k) ps path) refl e (λ h. index_tells ps (suc k) path j h)
  where
    by_own : (b : Bool) → pointwise nat_eq p.cut.path path ≡ b → (if b then Some k else None) ≡ Some j → Named (p ∷ ps) k path j
    by_own true s e = let same : k ≡ j = some_of k j e in record { at = 0; is = omega arith; piece = p; there = refl; same = same_is p.cut.path path s }
    by_own false s e = absurd cc

    by_rest : (o : Option ℕ) → index_from (suc k) ps path ≡ o → or_else o (if pointwise nat_eq p.cut.path path then Some k else None) ≡ Some j → (index_from (suc k) ps path ≡ Some j → Named ps (suc k) path j)
        → Named (p ∷ ps) k path j
    by_rest None s e deeper = by_own (pointwise nat_eq p.cut.path path) refl e
    by_rest (Some i) s e deeper =
        let same : i ≡ j = some_of i j e in
        let w : Named ps (suc k) path j = deeper (s ∙ ap Some same) in
        let is : j ≡ suc k + w.at = w.is in
        record { at = suc w.at; is = omega arith; piece = w.piece; there = w.there; same = w.same }

-- a piece at this path has an index
pub index_found : (ps : List Piece) (k : ℕ) (path : List ℕ) (p : Piece) → In p ps → p.cut.path ≡ path → (j : ℕ) × (index_from k ps path ≡ Some j)
index_found [] k path p h e = absurd h
index_found (q ∷ ps) k path p (inl s) e = by_rest (index_from (suc k) ps path) refl
  where
    own : pointwise nat_eq q.cut.path path ≡ true
    own = ap (λ (x : Piece). pointwise nat_eq x.cut.path path) s ∙ (ap (λ (l : List ℕ). pointwise nat_eq l path) e ∙ same_self path)

    by_rest : (o : Option ℕ) → index_from (suc k) ps path ≡ o → (j : ℕ) × (or_else o (if pointwise nat_eq q.cut.path path then Some k else None) ≡ Some j)
    by_rest None r = (k, ap (λ (b : Bool). if b then Some k else None) own)
    by_rest (Some i) r = (i, refl)
index_found (q ∷ ps) k path p (inr h) e =
    let w = index_found ps (suc k) path p h e in
    (w.0, ap (λ (o : Option ℕ). or_else o (if pointwise nat_eq q.cut.path path then Some k else None)) w.1)
