-- The places of a body are those at which something stands.
use Rattle.std.proofs.Common.{◌≡◌, ℕ, zero, suc, ◌+◌, ◌<◌, ◌⊎◌, inl, inr, List, [], ◌∷◌, ◌++◌, Option, Some, option_map, refl, sym, ap, ◌∙◌, subst, arith}
use Rattle.std.specs.List.{Contains}
use Rattle.std.proofs.lemmas.List.Elements.{Contains-append_left, Contains-append_right, Contains-push, Contains-push_cases, Contains-append_cases}
use mathlib.Core.Logic.{⊎_elim}
use Rattle.wm_ast.specs.Code.{Op, block, loop, if_else, Code, nil, cons}
use Rattle.wm_valid.specs.Place.{front, after_front}
use Rattle.wm_valid.specs.Arrows.{◌>>=◌}
use Rattle.wm_place.specs.Place.{Step, in_block, in_arm, Place, place, places_inside, places_from, places}
use Rattle.wm_place.specs.Spot.{level, Sequence, sequence, Spot, spot, parted, step_at, position_of, sequence_at, spot_at}
use Rattle.wm_place.proofs.SpotLemmas.{after_next, part_is, found}
use Rattle.wm_place.proofs.LevelLemmas.{some_of, IsInner, last_step}

-- the place is among these
abbrev pub Among : List Place → Place → Type 0
Among [] p = ⊥
Among (q ∷ qs) p = (q ≡ p) ⊎ Among qs p

among_left : (ps qs : List Place) (p : Place) → Among ps p → Among (ps ++ qs) p
among_left [] qs p h = absurd h
among_left (x ∷ ps) qs p h = ⊎_elim (λ (e : x ≡ p). inl e) (λ (l : Among ps p). inr (among_left ps qs p l)) h

among_right : (ps qs : List Place) (p : Place) → Among qs p → Among (ps ++ qs) p
among_right [] qs p h = h
among_right (x ∷ ps) qs p h = inr (among_right ps qs p h)

pub among_cases : (ps qs : List Place) (p : Place) → Among (ps ++ qs) p → Among ps p ⊎ Among qs p
among_cases [] qs p h = inr h
among_cases (x ∷ ps) qs p h =
    ⊎_elim (λ (e : x ≡ p). inl (inl e)) (λ (l : Among (ps ++ qs) p). ⊎_elim (λ (a : Among ps p). inl (inr a)) (λ (b : Among qs p). inr b) (among_cases ps qs p l)) h

-- ---- what stands is listed

here : (steps : List Step) (n : ℕ) (c : Code) → Among (places_from steps n c) (place steps n)
here steps n nil = inl refl
here steps n (cons i is) = inl refl

-- what follows in a sequence
onward : (n k : ℕ) (c rest : Code) (steps : List Step) (p : Place) → after_front n c ≡ Some rest → Among (places_from steps (k + n) rest) p → Among (places_from steps k c) p
onward zero k c rest steps p e h =
    let same : c ≡ rest = some_of c rest e in
    let sum : k + zero ≡ k = omega arith in
    subst (λ (d : Code). Among (places_from steps k d) p) (sym same) (subst (λ (m : ℕ). Among (places_from steps m rest) p) sum h)
onward (suc n) k nil rest steps p e h = absurd cc
onward (suc n) k (cons i is) rest steps p e h =
    let sum : k + suc n ≡ suc k + n = omega arith in
    inr (among_right (places_inside steps k i) (places_from steps (suc k) is) p (onward n (suc k) is rest steps p e (subst (λ (m : ℕ). Among (places_from steps m rest) p) sum h)))

inward : (s : Step) (steps : List Step) (op : Op) (c : Code) (p : Place) → IsInner s op c → Among (places_from (s ∷ steps) 0 c) p → Among (places_inside steps (position_of s) op) p
inward (in_block n) steps (block ty d) c p e h = subst (λ (x : Code). Among (places_from (in_block n ∷ steps) 0 x) p) (sym e) h
inward (in_block n) steps (loop ty d) c p e h = subst (λ (x : Code). Among (places_from (in_block n ∷ steps) 0 x) p) (sym e) h
inward (in_block n) steps _ c p e h = absurd e
inward (in_arm n zero) steps (if_else ty a b) c p e h =
    among_left (places_from (in_arm n 0 ∷ steps) 0 a) (places_from (in_arm n 1 ∷ steps) 0 b) p (subst (λ (x : Code). Among (places_from (in_arm n 0 ∷ steps) 0 x) p) (sym (some_of a c e)) h)
inward (in_arm n (suc zero)) steps (if_else ty a b) c p e h =
    among_right (places_from (in_arm n 0 ∷ steps) 0 a) (places_from (in_arm n 1 ∷ steps) 0 b) p (subst (λ (x : Code). Among (places_from (in_arm n 1 ∷ steps) 0 x) p) (sym (some_of b c e)) h)
inward (in_arm n (suc (suc k))) steps (if_else ty a b) c p e h = absurd cc
inward (in_arm n k) steps _ c p e h = absurd e

outward : (body : Sequence) (steps : List Step) (q : Sequence) (p : Place) → sequence_at body steps ≡ Some q → Among (places_from steps 0 q.code) p → Among (places_from [] 0 body.code) p
outward body [] q p e h = subst (λ (y : Sequence). Among (places_from [] 0 y.code) p) (sym (some_of body q e)) h
outward body (s ∷ steps) q p e h =
    let w = last_step body s steps q e in
    let n = position_of s in
    let rest : Code = cons w.entered.op w.entered.rest in
    let inner : Among (places_inside steps n w.entered.op) p = inward s steps w.entered.op q.code p w.entered.inner h in
    let there : Among (places_from steps n rest) p = inr (among_left (places_inside steps n w.entered.op) (places_from steps (suc n) w.entered.rest) p inner) in
    let sum : n ≡ 0 + n = omega arith in
    let o : Code = w.sequence.sequence.code in
    outward body steps w.sequence.sequence p w.sequence.there
    (onward n 0 o rest steps p (w.sequence.part.after ∙ ap Some w.entered.is_code) (subst (λ (m : ℕ). Among (places_from steps m rest) p) sum there))

pub listed : (body : Sequence) (p : Place) (x : Spot) → spot_at body p ≡ Some x → Among (places body.code) p
listed body p x e =
    let f = found body p x e in
    let n = p.position in
    let sum : n ≡ 0 + n = omega arith in
    outward body p.steps f.sequence p f.there
    (onward n 0 f.sequence.code x.code p.steps p f.part.after (subst (λ (m : ℕ). Among (places_from p.steps m x.code) p) sum (here p.steps n x.code)))

-- ---- what is listed stands

-- what stands at a position of a sequence
pub stands : (body : Sequence) (steps : List Step) (n : ℕ) (q : Sequence) (c : Code) → sequence_at body steps ≡ Some q → after_front n q.code ≡ Some c → spot_at body (place steps n) ≡ Some (spot q.levels (front n q.code) c)
stands body steps n q c e f = ap (λ (o : Option Sequence). o >>= parted n) e ∙ part_is n q c f

-- the place stands
abbrev pub IsThere : Sequence → Place → Type 0
IsThere body p = (x : Spot) × (spot_at body p ≡ Some x)

-- the sequence that an instruction at a position holds
abbrev pub held_by : List Step → ℕ → Sequence → Op → Code → Code → Sequence
held_by steps n q i rest c = sequence (level (Some (place steps n)) (front n q.code) i rest ∷ q.levels) c

pub into_step : (body : Sequence) (s : Step) (steps : List Step) (q : Sequence) (i : Op) (rest c : Code) → sequence_at body steps ≡ Some q → after_front (position_of s) q.code ≡ Some (cons i rest) → IsInner s i c
    → sequence_at body (s ∷ steps) ≡ Some (held_by steps (position_of s) q i rest c)
into_step body s steps q i rest c e f inner =
    ap (λ (o : Option Spot). o >>= step_at s steps) (stands body steps (position_of s) q (cons i rest) e f) ∙ by_op s i inner
  where
    by_op : (t : Step) (j : Op) → IsInner t j c → step_at t steps (spot q.levels (front (position_of t) q.code) (cons j rest)) ≡ Some (held_by steps (position_of t) q j rest c)
    by_op (in_block n) (block ty d) h = ap (λ (x : Code). Some (held_by steps n q (block ty d) rest x)) h
    by_op (in_block n) (loop ty d) h = ap (λ (x : Code). Some (held_by steps n q (loop ty d) rest x)) h
    by_op (in_block n) _ h = absurd h
    by_op (in_arm n k) (if_else ty a b) h = ap (λ (o : Option Code). option_map (sequence (level (Some (place steps n)) (front n q.code) (if_else ty a b) rest ∷ q.levels)) o) h
    by_op (in_arm n k) _ h = absurd h

module _ (body : Sequence) (p : Place) where
  mutual
    found_inside : (i : Op) (steps : List Step) (n : ℕ) (q : Sequence) (rest : Code) → sequence_at body steps ≡ Some q → after_front n q.code ≡ Some (cons i rest)
        → Among (places_inside steps n i) p → IsThere body p
    found_inside (block ty c) steps n q rest e f h = found_from c (in_block n ∷ steps) 0 (held_by steps n q (block ty c) rest c) (into_step body (in_block n) steps q (block ty c) rest c e f refl) refl h
    found_inside (loop ty c) steps n q rest e f h = found_from c (in_block n ∷ steps) 0 (held_by steps n q (loop ty c) rest c) (into_step body (in_block n) steps q (loop ty c) rest c e f refl) refl h
    found_inside (if_else ty a b) steps n q rest e f h =
        ⊎_elim
        (λ (l : Among (places_from (in_arm n 0 ∷ steps) 0 a) p). found_from a (in_arm n 0 ∷ steps) 0 (held_by steps n q (if_else ty a b) rest a) (into_step body (in_arm n 0) steps q (if_else ty a b) rest a e f refl) refl l)
        (λ (r : Among (places_from (in_arm n 1 ∷ steps) 0 b) p). found_from b (in_arm n 1 ∷ steps) 0 (held_by steps n q (if_else ty a b) rest b) (into_step body (in_arm n 1) steps q (if_else ty a b) rest b e f refl) refl r)
        (among_cases (places_from (in_arm n 0 ∷ steps) 0 a) (places_from (in_arm n 1 ∷ steps) 0 b) p h)
    found_inside _ steps n q rest e f h = absurd h

    found_from : (c : Code) (steps : List Step) (n : ℕ) (q : Sequence) → sequence_at body steps ≡ Some q → after_front n q.code ≡ Some c → Among (places_from steps n c) p → IsThere body p
    found_from nil steps n q e f h =
        ⊎_elim
        (λ (same : place steps n ≡ p). (spot q.levels (front n q.code) nil, subst (λ (r : Place). spot_at body r ≡ Some (spot q.levels (front n q.code) nil)) same (stands body steps n q nil e f)))
        (λ (l : ⊥). absurd l) h
    found_from (cons i is) steps n q e f h =
        ⊎_elim
        (λ (same : place steps n ≡ p). (spot q.levels (front n q.code) (cons i is), subst (λ (r : Place). spot_at body r ≡ Some (spot q.levels (front n q.code) (cons i is))) same (stands body steps n q (cons i is) e f)))
        (λ (l : Among (places_inside steps n i ++ places_from steps (suc n) is) p).
        ⊎_elim (λ (a : Among (places_inside steps n i) p). found_inside i steps n q is e f a)
        (λ (b : Among (places_from steps (suc n) is) p). found_from is steps (suc n) q e (after_next n q.code i is f) b)
        (among_cases (places_inside steps n i) (places_from steps (suc n) is) p l)) h

-- ---- in the library's words

head : (q : Place) (qs : List Place) → Contains (q ∷ qs) q
head q qs = Contains-append_left (q ∷ []) qs q (Contains-push [] q)

none : (p : Place) → Contains [] p → ⊥
none p h = let low : h.0 < 0 = h.1 in omega arith

contains : (ps : List Place) (p : Place) → Among ps p → Contains ps p
contains [] p h = absurd h
contains (q ∷ qs) p h =
    ⊎_elim (λ (e : q ≡ p). subst (λ (r : Place). Contains (q ∷ qs) r) e (head q qs)) (λ (l : Among qs p). Contains-append_right (q ∷ []) qs p (contains qs p l)) h

among : (ps : List Place) (p : Place) → Contains ps p → Among ps p
among [] p h = absurd (none p h)
among (q ∷ qs) p h =
    ⊎_elim
    (λ (l : Contains (q ∷ []) p). ⊎_elim (λ (n : Contains [] p). absurd (none p n)) (λ (e : q ≡ p). inl e) (Contains-push_cases [] q p l))
    (λ (r : Contains qs p). inr (among qs p r))
    (Contains-append_cases (q ∷ []) qs p h)

pub all_listed : (body : Sequence) (p : Place) (x : Spot) → spot_at body p ≡ Some x → Contains (places body.code) p
all_listed body p x e = contains (places body.code) p (listed body p x e)

pub all_found : (body : Sequence) (p : Place) → Contains (places body.code) p → (x : Spot) × (spot_at body p ≡ Some x)
all_found body p h = found_from body p body.code [] 0 body refl refl (among (places body.code) p h)
