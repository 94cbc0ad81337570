-- Pieces: where they begin, how they end, and what they weigh.
use Rattle.std.proofs.Common.{◌≡◌, ℕ, ◌+◌, ◌≤◌, inl, inr, List, [], ◌∷◌, Bool, true, false, refl, sym, ap, ◌∙◌, subst, arith}
use Rattle.std.specs.Prelude.{if◌then◌else◌, ◌||◌, nat_lt}
use Rattle.std.proofs.lemmas.Bool.{ltb-false}
use mathlib.Core.Logic.{⊎_elim}
use Rattle.wm_place.specs.Visit.{Visit}
use Rattle.cc_cut.specs.Cost.{full}
use Rattle.cc_cut.specs.Piece.{begins, place_cost, is_cut, Piece, piece, places_in, up_to_cut, pieces_from}
use Rattle.cc_cut.specs.Law.{weight_of}
use Rattle.cc_cut.proofs.ListLemmas.{In}

-- what the two ways of a test share
pub by_bool : (b : Bool) {A : Type 0} (x y : A) (P : A → Type 0) → (b ≡ true → P x) → (b ≡ false → P y) → P (if b then x else y)
by_bool true x y P f g = f refl
by_bool false x y P f g = g refl

-- the pieces that begin behind a place, which is a cut
abbrev pub piece_at : Visit → List Visit → Piece
piece_at v vs = piece v (up_to_cut (place_cost v) vs)

-- what holds of the pieces at places, by whether the first is a cut
pub by_cut : (spent : ℕ) (v : Visit) (vs : List Visit) (P : List Piece → Type 0) → (is_cut spent v ≡ true → P (piece_at v vs ∷ pieces_from (place_cost v) vs))
    → (is_cut spent v ≡ false → P (pieces_from (spent + place_cost v) vs)) → P (pieces_from spent (v ∷ vs))
by_cut spent v vs P f g = by_bool (is_cut spent v) (piece_at v vs ∷ pieces_from (place_cost v) vs) (pieces_from (spent + place_cost v) vs) P f g

pub or_true : (a b : Bool) → a ≡ true → (a || b) ≡ true
or_true true b e = refl
or_true false b e = absurd cc

pub or_also : (a b : Bool) → b ≡ true → (a || b) ≡ true
or_also true b e = refl
or_also false b e = e

pub or_false : (a b : Bool) → (a || b) ≡ false → (a ≡ false) × (b ≡ false)
or_false true b e = absurd cc
or_false false b e = (refl, e)

-- a place at which a piece begins in any case is a cut
begins_cut : (spent : ℕ) (v : Visit) → begins v ≡ true → is_cut spent v ≡ true
begins_cut spent v e = or_true (begins v) (nat_lt full (spent + place_cost v)) e

-- a piece that begins at the place
abbrev pub BeginsAt : Visit → List Piece → Type 0
BeginsAt x ps = (p : Piece) × In p ps × (p.cut ≡ x)

later : (x : Visit) (p : Piece) (ps : List Piece) → BeginsAt x ps → BeginsAt x (p ∷ ps)
later x p ps (q, i, e) = (q, inr i, e)

-- a place at which a piece begins in any case has its piece
pub begun_has : (vs : List Visit) (spent : ℕ) (x : Visit) → In x vs → begins x ≡ true → BeginsAt x (pieces_from spent vs)
begun_has [] spent x h b = absurd h
begun_has (v ∷ vs) spent x (inl e) b =
    let cut : is_cut spent v ≡ true = ap (is_cut spent) e ∙ begins_cut spent x b in
    by_cut spent v vs (BeginsAt x) (λ c. (piece_at v vs, inl refl, e)) (λ c. absurd (let w : true ≡ false = sym cut ∙ c in cc))
begun_has (v ∷ vs) spent x (inr h) b =
    by_cut spent v vs (BeginsAt x) (λ c. later x (piece_at v vs) (pieces_from (place_cost v) vs) (begun_has vs (place_cost v) x h b)) (λ c. begun_has vs (spent + place_cost v) x h b)

-- a cut is one of the places
pub cut_among : (vs : List Visit) (spent : ℕ) (p : Piece) → In p (pieces_from spent vs) → In p.cut vs
cut_among [] spent p h = absurd h
cut_among (v ∷ vs) spent p h =
    by_cut spent v vs (λ ps. In p ps → In p.cut (v ∷ vs))
    (λ c g. ⊎_elim (λ (e : piece_at v vs ≡ p). inl (ap (λ (q : Piece). q.cut) e)) (λ (i : In p (pieces_from (place_cost v) vs)). inr (cut_among vs (place_cost v) p i)) g)
    (λ c g. inr (cut_among vs (spent + place_cost v) p g)) h

-- the place that was reached with so much weight is within the piece
not_full : (spent : ℕ) (v : Visit) → is_cut spent v ≡ false → spent + place_cost v ≤ full
not_full spent v e = ltb-false full (spent + place_cost v) (or_false (begins v) (nat_lt full (spent + place_cost v)) e).1

-- what a piece has still to weigh
pub weighs : (vs : List Visit) (spent : ℕ) → spent ≤ full → spent + weight_of (up_to_cut spent vs) ≤ full
weighs [] spent h = omega arith
weighs (v ∷ vs) spent h =
    by_bool (is_cut spent v) [] (v ∷ up_to_cut (spent + place_cost v) vs) (λ xs. spent + weight_of xs ≤ full)
    (λ c. omega arith)
    (λ c. let more : (spent + place_cost v) + weight_of (up_to_cut (spent + place_cost v) vs) ≤ full = weighs vs (spent + place_cost v) (not_full spent v c) in omega arith)

-- no piece is too full, where no place alone is
pub pieces_fit : ((v : Visit) → place_cost v ≤ full) → (vs : List Visit) (spent : ℕ) (p : Piece) → In p (pieces_from spent vs) → weight_of (places_in p) ≤ full
pieces_fit light [] spent p h = absurd h
pieces_fit light (v ∷ vs) spent p h =
    by_cut spent v vs (λ ps. In p ps → weight_of (places_in p) ≤ full)
    (λ c g. ⊎_elim (λ (e : piece_at v vs ≡ p). subst (λ (q : Piece). weight_of (places_in q) ≤ full) e (weighs vs (place_cost v) (light v)))
    (λ (i : In p (pieces_from (place_cost v) vs)). pieces_fit light vs (place_cost v) p i) g)
    (λ c g. pieces_fit light vs (spent + place_cost v) p g) h
