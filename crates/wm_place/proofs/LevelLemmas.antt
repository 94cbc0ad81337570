-- The blocks round a place.
use Rattle.std.proofs.Common.{◌≡◌, List, [], ◌∷◌, Option, Some, None, option_map, refl, sym, ap, ◌∙◌, subst}
use Rattle.wm_ast.specs.declared.module.ValType.{ValType}
use Rattle.wm_ast.specs.Code.{Op, block, loop, if_else, Code, nil, cons}
use Rattle.wm_valid.specs.Place.{arm}
use Rattle.wm_valid.proofs.OperandLaws.{bind_some}
use Rattle.wm_place.specs.Place.{Step, in_block, in_arm, Place, place}
use Rattle.wm_place.specs.Spot.{Level, level, Sequence, sequence, body_sequence, Spot, spot, step_from, step_at, position_of, sequence_at, spot_at, AllStand}
use Rattle.wm_place.proofs.SpotLemmas.{Found, found}

pub some_of : {A : Type 0} (x y : A) → Some x ≡ Some y → x ≡ y
some_of x y e = cc

pub map_some : {A B : Type 0} (f : A → B) (o : Option A) (y : B) → option_map f o ≡ Some y → (x : A) × (o ≡ Some x) × (f x ≡ y)
map_some f None y e = absurd cc
map_some f (Some x) y e = (x, refl, some_of (f x) y e)

-- the step leads from the instruction into this sequence
abbrev pub IsInner : Step → Op → Code → Type 0
IsInner (in_block n) (block ty c) d = c ≡ d
IsInner (in_block n) (loop ty c) d = c ≡ d
IsInner (in_arm n k) (if_else ty a b) d = arm k a b ≡ Some d
IsInner _ _ d = ⊥

pub record Entered (s : Step) (p : Place) (lvs : List Level) (before code : Code) (q : Sequence) : Type 0 where
  pub op : Op
  pub rest : Code
  pub is_code : code ≡ cons op rest
  pub levels : q.levels ≡ level (Some p) before op rest ∷ lvs
  pub inner : IsInner s op q.code

entered_by : (s : Step) (p : Place) (lvs : List Level) (before : Code) (op : Op) (rest c : Code) (q : Sequence) → sequence (level (Some p) before op rest ∷ lvs) c ≡ q → IsInner s op c
    → Entered s p lvs before (cons op rest) q
entered_by s p lvs before op rest c q e inner = record {
  op = op;
  rest = rest;
  is_code = refl;
  levels = ap (λ (y : Sequence). y.levels) (sym e);
  inner = subst (λ (d : Code). IsInner s op d) (ap (λ (y : Sequence). y.code) e) inner;
}

pub entered : (s : Step) (p : Place) (lvs : List Level) (before code : Code) (q : Sequence) → step_from s p lvs before code ≡ Some q → Entered s p lvs before code q
entered s p lvs before nil q e = absurd cc
entered (in_block n) p lvs before (cons (block ty c) rest) q e = entered_by (in_block n) p lvs before (block ty c) rest c q (some_of (sequence (level (Some p) before (block ty c) rest ∷ lvs) c) q e) refl
entered (in_block n) p lvs before (cons (loop ty c) rest) q e = entered_by (in_block n) p lvs before (loop ty c) rest c q (some_of (sequence (level (Some p) before (loop ty c) rest ∷ lvs) c) q e) refl
entered (in_block n) p lvs before (cons _ rest) q e = absurd cc
entered (in_arm n k) p lvs before (cons (if_else ty a b) rest) q e =
    let w = map_some (sequence (level (Some p) before (if_else ty a b) rest ∷ lvs)) (arm k a b) q e in
    entered_by (in_arm n k) p lvs before (if_else ty a b) rest w.0 q w.2 w.1
entered (in_arm n k) p lvs before (cons _ rest) q e = absurd cc

-- the last step to a sequence
pub record LastStep (body : Sequence) (s : Step) (steps : List Step) (q : Sequence) : Type 0 where
  pub outer : Spot
  pub there : spot_at body (place steps (position_of s)) ≡ Some outer
  pub sequence : Found body (place steps (position_of s)) outer
  pub entered : Entered s (place steps (position_of s)) outer.levels outer.before outer.code q

pub last_step : (body : Sequence) (s : Step) (steps : List Step) (q : Sequence) → sequence_at body (s ∷ steps) ≡ Some q → LastStep body s steps q
last_step body s steps q e =
    let w = bind_some (spot_at body (place steps (position_of s))) (step_at s steps) q e in
    record {
      outer = w.0;
      there = w.1;
      sequence = found body (place steps (position_of s)) w.0 w.1;
      entered = entered s (place steps (position_of s)) w.0.levels w.0.before w.0.code q w.2;
    }

pub levels_stand : (body : Sequence) → AllStand body body.levels → (steps : List Step) (q : Sequence) → sequence_at body steps ≡ Some q → AllStand body q.levels
levels_stand body root [] q e = subst (λ (y : Sequence). AllStand body y.levels) (some_of body q e) root
levels_stand body root (s ∷ steps) q e =
    let w = last_step body s steps q e in
    let n = position_of s in
    let outer : AllStand body w.sequence.sequence.levels = levels_stand body root steps w.sequence.sequence w.sequence.there in
    let here : spot_at body (place steps n) ≡ Some (spot w.outer.levels w.outer.before (cons w.entered.op w.entered.rest)) = w.there ∙ ap (λ (c : Code). Some (spot w.outer.levels w.outer.before c)) w.entered.is_code in
    subst (λ (l : List Level). AllStand body l) (sym w.entered.levels) (
      (λ p same. subst (λ (r : Place). spot_at body r ≡ Some (spot w.outer.levels w.outer.before (cons w.entered.op w.entered.rest))) (some_of (place steps n) p same) here),
      subst (λ (l : List Level). AllStand body l) w.sequence.part.levels outer,
    )

pub find_levels : (gives : Option ValType) (c : Code) (p : Place) (x : Spot) → spot_at (body_sequence gives c) p ≡ Some x → AllStand (body_sequence gives c) x.levels
find_levels gives c p x e =
    let body : Sequence = body_sequence gives c in
    let f = found body p x e in
    let root : AllStand body body.levels = ((λ q none. absurd cc), tt) in
    subst (λ (l : List Level). AllStand body l) f.part.levels (levels_stand body root p.steps f.sequence f.there)
