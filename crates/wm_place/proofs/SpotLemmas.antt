-- What stands at the places that a place leads to.
use Rattle.std.proofs.Common.{◌≡◌, ℕ, zero, suc, List, ◌∷◌, Option, Some, None, option_map, refl, ap, ◌∙◌}
use Rattle.wm_ast.specs.declared.module.ValType.{ValType}
use Rattle.wm_ast.specs.Code.{Op, block, loop, if_else, Code, nil, cons}
use Rattle.wm_valid.specs.Place.{front, after_front}
use Rattle.wm_valid.specs.Arrows.{◌>>=◌}
use Rattle.wm_valid.proofs.OperandLaws.{bind_some}
use Rattle.wm_place.specs.Place.{in_block, in_arm, Place, next, inside, inside_arm}
use Rattle.wm_place.specs.Spot.{Level, level, Sequence, Spot, spot, followed_by, parted, step_at, sequence_at, spot_at}

some_of : {A : Type 0} (x y : A) → Some x ≡ Some y → x ≡ y
some_of x y e = cc

pub cons_of : (i j : Op) (is js : Code) → cons i is ≡ cons j js → (i ≡ j) × (is ≡ js)
cons_of i j is js e = (cc, cc)

-- ---- a sequence

pub after_next : (n : ℕ) (c : Code) (i : Op) (is : Code) → after_front n c ≡ Some (cons i is) → after_front (suc n) c ≡ Some is
after_next zero nil i is e = absurd (let w : nil ≡ cons i is = some_of nil (cons i is) e in cc)
after_next zero (cons j js) i is e = let w = cons_of j i js is (some_of (cons j js) (cons i is) e) in ap Some w.1
after_next (suc n) nil i is e = absurd cc
after_next (suc n) (cons j js) i is e = after_next n js i is e

pub front_next : (n : ℕ) (c : Code) (i : Op) (is : Code) → after_front n c ≡ Some (cons i is) → front (suc n) c ≡ followed_by (front n c) i
front_next zero nil i is e = absurd (let w : nil ≡ cons i is = some_of nil (cons i is) e in cc)
front_next zero (cons j js) i is e = let w = cons_of j i js is (some_of (cons j js) (cons i is) e) in ap (λ (o : Op). cons o nil) w.0
front_next (suc n) nil i is e = absurd cc
front_next (suc n) (cons j js) i is e = ap (λ (c : Code). cons j c) (front_next n js i is e)

-- a spot is of a sequence that is parted
pub record Part (n : ℕ) (q : Sequence) (lvs : List Level) (before code : Code) : Type 0 where
  pub levels : q.levels ≡ lvs
  pub front : front n q.code ≡ before
  pub after : after_front n q.code ≡ Some code

pub part_of : (n : ℕ) (q : Sequence) (x : Spot) → parted n q ≡ Some x → Part n q x.levels x.before x.code
part_of n q x e = by_after (after_front n q.code) refl e
  where
    by_after : (o : Option Code) → after_front n q.code ≡ o → option_map (λ rest. spot q.levels (front n q.code) rest) o ≡ Some x → Part n q x.levels x.before x.code
    by_after None f e = absurd cc
    by_after (Some rest) f e =
        let w : spot q.levels (front n q.code) rest ≡ x = some_of (spot q.levels (front n q.code) rest) x e in
        record {
          levels = ap (λ (y : Spot). y.levels) w;
          front = ap (λ (y : Spot). y.before) w;
          after = f ∙ ap (λ (y : Spot). Some y.code) w;
        }

-- a sequence in which so many instructions stand first
pub part_is : (n : ℕ) (q : Sequence) (code : Code) → after_front n q.code ≡ Some code → parted n q ≡ Some (spot q.levels (front n q.code) code)
part_is n q code e = ap (option_map (λ rest. spot q.levels (front n q.code) rest)) e

-- ---- places

-- a place is found in the sequence that its steps lead to
pub record Found (body : Sequence) (p : Place) (x : Spot) : Type 0 where
  pub sequence : Sequence
  pub there : sequence_at body p.steps ≡ Some sequence
  pub part : Part p.position sequence x.levels x.before x.code

pub found : (body : Sequence) (p : Place) (x : Spot) → spot_at body p ≡ Some x → Found body p x
found body p x e =
    let w = bind_some (sequence_at body p.steps) (parted p.position) x e in
    record { sequence = w.0; there = w.1; part = part_of p.position w.0 x w.2 }

pub find_next : (body : Sequence) (p : Place) (lvs : List Level) (before : Code) (i : Op) (is : Code) → spot_at body p ≡ Some (spot lvs before (cons i is))
    → spot_at body (next p) ≡ Some (spot lvs (followed_by before i) is)
find_next body p lvs before i is e =
    let w = found body p (spot lvs before (cons i is)) e in
    let q = w.sequence in
    ap (λ (o : Option Sequence). o >>= parted (suc p.position)) w.there
    ∙ (part_is (suc p.position) q is (after_next p.position q.code i is w.part.after)
    ∙ (ap (λ (l : List Level). Some (spot l (front (suc p.position) q.code) is)) w.part.levels
    ∙ ap (λ (c : Code). Some (spot lvs c is)) (front_next p.position q.code i is w.part.after ∙ ap (λ (c : Code). followed_by c i) w.part.front)))

-- the first place inside
pub find_block : (body : Sequence) (p : Place) (lvs : List Level) (before : Code) (ty : Option ValType) (c is : Code) → spot_at body p ≡ Some (spot lvs before (cons (block ty c) is))
    → spot_at body (inside p) ≡ Some (spot (level (Some p) before (block ty c) is ∷ lvs) nil c)
find_block body p lvs before ty c is e = ap (λ (o : Option Spot). o >>= step_at (in_block p.position) p.steps >>= parted 0) e

pub find_loop : (body : Sequence) (p : Place) (lvs : List Level) (before : Code) (ty : Option ValType) (c is : Code) → spot_at body p ≡ Some (spot lvs before (cons (loop ty c) is))
    → spot_at body (inside p) ≡ Some (spot (level (Some p) before (loop ty c) is ∷ lvs) nil c)
find_loop body p lvs before ty c is e = ap (λ (o : Option Spot). o >>= step_at (in_block p.position) p.steps >>= parted 0) e

pub find_first_arm : (body : Sequence) (p : Place) (lvs : List Level) (before : Code) (ty : Option ValType) (c d is : Code) → spot_at body p ≡ Some (spot lvs before (cons (if_else ty c d) is))
    → spot_at body (inside_arm 0 p) ≡ Some (spot (level (Some p) before (if_else ty c d) is ∷ lvs) nil c)
find_first_arm body p lvs before ty c d is e = ap (λ (o : Option Spot). o >>= step_at (in_arm p.position 0) p.steps >>= parted 0) e

pub find_second_arm : (body : Sequence) (p : Place) (lvs : List Level) (before : Code) (ty : Option ValType) (c d is : Code) → spot_at body p ≡ Some (spot lvs before (cons (if_else ty c d) is))
    → spot_at body (inside_arm 1 p) ≡ Some (spot (level (Some p) before (if_else ty c d) is ∷ lvs) nil d)
find_second_arm body p lvs before ty c d is e = ap (λ (o : Option Spot). o >>= step_at (in_arm p.position 1) p.steps >>= parted 0) e
