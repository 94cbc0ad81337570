-- The paths of a body's places rise in the order of its text.
use Rattle.std.proofs.Common.{◌≡◌, ℕ, suc, ◌<◌, ◌≤◌, inl, inr, List, [], ◌∷◌, ◌++◌, refl, sym, ap, ◌∙◌, subst, arith, append_assoc}
use Rattle.std.specs.List.{All, AllPairs}
use Rattle.std.proofs.lemmas.List.Elements.{All-nil, All-cons}
use Rattle.std.proofs.lemmas.List.Kept.{AllPairs-cons}
use mathlib.Core.Logic.{⊎_elim}
use Rattle.wm_ast.specs.Code.{Op, block, loop, if_else, Code, nil, cons}
use Rattle.wm_place.specs.Place.{Step, in_block, in_arm, Place, place, lead, path_of, places_inside, places_from, places, IsBefore}
use Rattle.wm_place.specs.Law.{PathLeadsOn}
use Rattle.wm_place.proofs.PlaceLemmas.{Among, among_cases}
use Rattle.wm_place.proofs.WalkLemmas.{lead_append}

before_lead : (front xs ys : List ℕ) → IsBefore xs ys → IsBefore (front ++ xs) (front ++ ys)
before_lead [] xs ys h = h
before_lead (x ∷ front) xs ys h = inr (refl, before_lead front xs ys h)

-- the place has its path before that of the other
abbrev pub Before : Place → Place → Type 0
Before p q = IsBefore (path_of p) (path_of q)

by_paths : (p q : Place) (front xs ys : List ℕ) → path_of p ≡ front ++ xs → path_of q ≡ front ++ ys → IsBefore xs ys → Before p q
by_paths p q front xs ys e f h =
    subst (λ (l : List ℕ). IsBefore l (path_of q)) (sym e) (subst (λ (l : List ℕ). IsBefore (front ++ xs) l) (sym f) (before_lead front xs ys h))

-- each stands before all that follow
abbrev pub Rises : List Place → Type 0
Rises [] = Unit {0}
Rises (p ∷ ps) = ((q : Place) → Among ps q → Before p q) × Rises ps

rises_both : (ps qs : List Place) → Rises ps → Rises qs → ((p q : Place) → Among ps p → Among qs q → Before p q) → Rises (ps ++ qs)
rises_both [] qs f g across = g
rises_both (p ∷ ps) qs f g across = (
  (λ q a. ⊎_elim (λ (l : Among ps q). f.0 q l) (λ (r : Among qs q). across p q (inl refl) r) (among_cases ps qs q a)),
  rises_both ps qs f.1 g (λ x y a b. across x y (inr a) b),
)

all_among : (R : Place → Type 0) (ps : List Place) → ((q : Place) → Among ps q → R q) → All R ps
all_among R [] h = All-nil R
all_among R (p ∷ ps) h = All-cons R p ps (h p (inl refl)) (all_among R ps (λ q a. h q (inr a)))

pairs : (ps : List Place) → Rises ps → AllPairs Before ps
pairs [] h = λ i j d l short. absurd (let low : j < 0 = short in omega arith)
pairs (p ∷ ps) h = AllPairs-cons Before p ps (all_among (Before p) ps h.0) (pairs ps h.1)

-- ---- how paths begin

behind_step : (steps : List Step) (front : List ℕ) (path others : List ℕ) → path ≡ lead steps front ++ others → path ≡ lead steps [] ++ (front ++ others)
behind_step steps front path others e = e ∙ (ap (λ (l : List ℕ). l ++ others) (lead_append steps front) ∙ append_assoc (lead steps []) front others)

mutual
  begins_inside : (i : Op) (steps : List Step) (n : ℕ) (q : Place) → Among (places_inside steps n i) q → (k : ℕ) × (r : List ℕ) × (path_of q ≡ lead steps [] ++ (n ∷ k ∷ r))
  begins_inside (block ty c) steps n q h =
      let w = begins_from c (in_block n ∷ steps) 0 q h in
      (w.0, w.1, behind_step steps (n ∷ []) (path_of q) (w.0 ∷ w.1) w.3)
  begins_inside (loop ty c) steps n q h =
      let w = begins_from c (in_block n ∷ steps) 0 q h in
      (w.0, w.1, behind_step steps (n ∷ []) (path_of q) (w.0 ∷ w.1) w.3)
  begins_inside (if_else ty a b) steps n q h =
      ⊎_elim
      (λ (l : Among (places_from (in_arm n 0 ∷ steps) 0 a) q).
      let w = begins_from a (in_arm n 0 ∷ steps) 0 q l in
      let r : (k : ℕ) × (r : List ℕ) × (path_of q ≡ lead steps [] ++ (n ∷ k ∷ r)) = (0, w.0 ∷ w.1, behind_step steps (n ∷ 0 ∷ []) (path_of q) (w.0 ∷ w.1) w.3) in r)
      (λ (l : Among (places_from (in_arm n 1 ∷ steps) 0 b) q).
      let w = begins_from b (in_arm n 1 ∷ steps) 0 q l in
      let r : (k : ℕ) × (r : List ℕ) × (path_of q ≡ lead steps [] ++ (n ∷ k ∷ r)) = (1, w.0 ∷ w.1, behind_step steps (n ∷ 1 ∷ []) (path_of q) (w.0 ∷ w.1) w.3) in r)
      (among_cases (places_from (in_arm n 0 ∷ steps) 0 a) (places_from (in_arm n 1 ∷ steps) 0 b) q h)
  begins_inside _ steps n q h = absurd h

  begins_from : (c : Code) (steps : List Step) (n : ℕ) (q : Place) → Among (places_from steps n c) q → (m : ℕ) × (r : List ℕ) × (n ≤ m) × (path_of q ≡ lead steps [] ++ (m ∷ r))
  begins_from nil steps n q h =
      ⊎_elim
      (λ (e : place steps n ≡ q). let r : (m : ℕ) × (r : List ℕ) × (n ≤ m) × (path_of q ≡ lead steps [] ++ (m ∷ r)) = (n, [], omega arith, ap path_of (sym e) ∙ lead_append steps (n ∷ [])) in r)
      (λ (l : ⊥). absurd l) h
  begins_from (cons i is) steps n q h =
      ⊎_elim
      (λ (e : place steps n ≡ q). let r : (m : ℕ) × (r : List ℕ) × (n ≤ m) × (path_of q ≡ lead steps [] ++ (m ∷ r)) = (n, [], omega arith, ap path_of (sym e) ∙ lead_append steps (n ∷ [])) in r)
      (λ (l : Among (places_inside steps n i ++ places_from steps (suc n) is) q).
      ⊎_elim
      (λ (a : Among (places_inside steps n i) q).
      let w = begins_inside i steps n q a in
      let r : (m : ℕ) × (r : List ℕ) × (n ≤ m) × (path_of q ≡ lead steps [] ++ (m ∷ r)) = (n, w.0 ∷ w.1, omega arith, w.2) in r)
      (λ (b : Among (places_from steps (suc n) is) q).
      let w = begins_from is steps (suc n) q b in
      let low : suc n ≤ w.0 = w.2 in
      let r : (m : ℕ) × (r : List ℕ) × (n ≤ m) × (path_of q ≡ lead steps [] ++ (m ∷ r)) = (w.0, w.1, omega arith, w.3) in r)
      (among_cases (places_inside steps n i) (places_from steps (suc n) is) q l)) h

-- ---- places rise

begins_arm : (k : ℕ) (c : Code) (steps : List Step) (n : ℕ) (q : Place) → Among (places_from (in_arm n k ∷ steps) 0 c) q → (r : List ℕ) × (path_of q ≡ lead steps [] ++ (n ∷ k ∷ r))
begins_arm k c steps n q h =
    let w = begins_from c (in_arm n k ∷ steps) 0 q h in
    (w.0 ∷ w.1, behind_step steps (n ∷ k ∷ []) (path_of q) (w.0 ∷ w.1) w.3)

mutual
  rises_inside : (i : Op) (steps : List Step) (n : ℕ) → Rises (places_inside steps n i)
  rises_inside (block ty c) steps n = rises_from c (in_block n ∷ steps) 0
  rises_inside (loop ty c) steps n = rises_from c (in_block n ∷ steps) 0
  rises_inside (if_else ty a b) steps n =
      rises_both (places_from (in_arm n 0 ∷ steps) 0 a) (places_from (in_arm n 1 ∷ steps) 0 b) (rises_from a (in_arm n 0 ∷ steps) 0) (rises_from b (in_arm n 1 ∷ steps) 0)
      (λ p q l r.
      let x = begins_arm 0 a steps n p l in
      let y = begins_arm 1 b steps n q r in
      let low : 0 < 1 = omega arith in
      by_paths p q (lead steps []) (n ∷ 0 ∷ x.0) (n ∷ 1 ∷ y.0) x.1 y.1 (inr (refl, inl low)))
  rises_inside _ steps n = tt

  rises_from : (c : Code) (steps : List Step) (n : ℕ) → Rises (places_from steps n c)
  rises_from nil steps n = ((λ q a. absurd a), tt)
  rises_from (cons i is) steps n = (
    (λ q h.
        ⊎_elim
        (λ (a : Among (places_inside steps n i) q).
        let x = begins_inside i steps n q a in
        by_paths (place steps n) q (lead steps []) (n ∷ []) (n ∷ x.0 ∷ x.1) (lead_append steps (n ∷ [])) x.2 (inr (refl, tt)))
        (λ (b : Among (places_from steps (suc n) is) q).
        let y = begins_from is steps (suc n) q b in
        let low : suc n ≤ y.0 = y.2 in
        let later : n < y.0 = omega arith in
        by_paths (place steps n) q (lead steps []) (n ∷ []) (y.0 ∷ y.1) (lead_append steps (n ∷ [])) y.3 (inl later))
        (among_cases (places_inside steps n i) (places_from steps (suc n) is) q h)),
    rises_both (places_inside steps n i) (places_from steps (suc n) is) (rises_inside i steps n) (rises_from is steps (suc n))
        (λ p q l r.
        let x = begins_inside i steps n p l in
        let y = begins_from is steps (suc n) q r in
        let low : suc n ≤ y.0 = y.2 in
        let later : n < y.0 = omega arith in
        by_paths p q (lead steps []) (n ∷ x.0 ∷ x.1) (y.0 ∷ y.1) x.2 y.3 (inl later)),
  )

pub places_rise : (c : Code) → AllPairs Before (places c)
places_rise c = pairs (places c) (rises_from c [] 0)

pub path_leads_on : (p : Place) → PathLeadsOn p
path_leads_on p =
    let n : ℕ = p.position in
    record {
      here = lead_append p.steps (n ∷ []);
      behind = lead_append p.steps (suc n ∷ []);
      in_block = lead_append p.steps (n ∷ 0 ∷ []) ∙ sym (behind_step p.steps (n ∷ []) (path_of p ++ 0 ∷ []) (0 ∷ []) refl);
      in_arm = λ k. lead_append p.steps (n ∷ k ∷ 0 ∷ []) ∙ sym (behind_step p.steps (n ∷ []) (path_of p ++ k ∷ 0 ∷ []) (k ∷ 0 ∷ []) refl);
    }
