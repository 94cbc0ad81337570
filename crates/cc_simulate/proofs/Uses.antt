-- What looks bytes up where the machine stands does so in the module: so the tables of bytes stand there.
use Rattle.std.proofs.Common.{◌≡◌, ℕ, zero, suc, List, [], ◌∷◌, ◌++◌, Bool, true, false, ◌||◌, Option, Some, refl, sym, ap, ◌∙◌, subst}
use Rattle.std.specs.Prelude.{slice_get}
use Rattle.std.specs.List.{list_any}
use Rattle.std.proofs.lemmas.List.Folds.{list_any-append}
use Rattle.wm_ast.specs.declared.module.Module.{Module}
use Rattle.wm_ast.specs.declared.module.ValType.{ValType}
use Rattle.wm_ast.specs.declared.operation.NumOp.{NumOp}
use Rattle.wm_ast.specs.Code.{Op, block, loop, if_else, num, Code, nil, cons}
use Rattle.wm_ast.specs.Profile.{op_and_inside, all_ops}
use Rattle.wm_ast.specs.View.{code_of}
use Rattle.wm_valid.specs.Place.{after_front}
use Rattle.wm_valid.proofs.PlaceLaws.{of_arm}
use Rattle.wm_flat.specs.Flat.{Activation}
use Rattle.wm_place.specs.Kinds.{first_of}
use Rattle.wm_place.specs.Place.{Step, in_block, in_arm, Place}
use Rattle.wm_place.specs.Spot.{Sequence, body_sequence, Spot, position_of, sequence_at, spot_at}
use Rattle.wm_place.specs.Visit.{Visit}
use Rattle.wm_place.proofs.IntLemmas.{none_of}
use Rattle.wm_place.proofs.LevelLemmas.{some_of, IsInner, last_step}
use Rattle.wm_place.proofs.SpotLemmas.{found}
use Rattle.cc_line.specs.Standing.{takes_bytes}
use Rattle.cc_move.specs.Standing.{StandsAt}
use Rattle.cc_simulate.specs.Uses.{op_takes_bytes, function_takes_bytes, uses_bytes}

first_true : (a b : Bool) → a ≡ true → a || b ≡ true
first_true true b e = refl
first_true false b e = absurd (let y : false ≡ true = e in cc)

second_true : (a b : Bool) → b ≡ true → a || b ≡ true
second_true true b e = refl
second_true false b e = e

module _ (test : Op → Bool) where
  abbrev Has : List Op → Type 0
  Has is = list_any test is ≡ true

  in_front : (xs ys : List Op) → Has xs → Has (xs ++ ys)
  in_front xs ys h = list_any-append test xs ys ∙ first_true (list_any test xs) (list_any test ys) h

  behind : (xs ys : List Op) → Has ys → Has (xs ++ ys)
  behind xs ys h = list_any-append test xs ys ∙ second_true (list_any test xs) (list_any test ys) h

  -- what stands behind the first instructions of a sequence stands in it
  after_has : (n : ℕ) (c d : Code) → after_front n c ≡ Some d → Has (all_ops d) → Has (all_ops c)
  after_has zero c d e h = subst (λ (x : Code). Has (all_ops x)) (sym (some_of c d e)) h
  after_has (suc n) nil d e h = absurd cc
  after_has (suc n) (cons i is) d e h = behind (op_and_inside i) (all_ops is) (after_has n is d e h)

  -- and what stands inside an instruction of it
  inner_has : (s : Step) (i : Op) (d : Code) → IsInner s i d → Has (all_ops d) → Has (op_and_inside i)
  inner_has (in_block n) (block ty c) d e h = second_true (test (block ty c)) (list_any test (all_ops c)) (subst (λ (x : Code). Has (all_ops x)) (sym e) h)
  inner_has (in_block n) (loop ty c) d e h = second_true (test (loop ty c)) (list_any test (all_ops c)) (subst (λ (x : Code). Has (all_ops x)) (sym e) h)
  inner_has (in_block n) _ d e h = absurd e
  inner_has (in_arm n k) (if_else ty a b) d e h =
      second_true (test (if_else ty a b)) (list_any test (all_ops a ++ all_ops b))
      (of_arm k a b d (λ (x : Code). Has (all_ops x) → Has (all_ops a ++ all_ops b)) e (in_front (all_ops a) (all_ops b)) (behind (all_ops a) (all_ops b)) h)
  inner_has (in_arm n k) _ d e h = absurd e

  module _ (gives : Option ValType) (c : Code) where
    sequence_has : (steps : List Step) (q : Sequence) → sequence_at (body_sequence gives c) steps ≡ Some q → Has (all_ops q.code) → Has (all_ops c)
    sequence_has [] q e h = subst (λ (y : Sequence). Has (all_ops y.code)) (sym (some_of (body_sequence gives c) q e)) h
    sequence_has (s ∷ steps) q e h =
        let w = last_step (body_sequence gives c) s steps q e in
        let o : Sequence = w.sequence.sequence in
        let op : Op = w.entered.op in
        let rest : Code = w.entered.rest in
        let here : Has (all_ops (cons op rest)) = in_front (op_and_inside op) (all_ops rest) (inner_has s op q.code w.entered.inner h) in
        sequence_has steps o w.sequence.there (after_has (position_of s) o.code (cons op rest) (w.sequence.part.after ∙ ap (λ (x : Code). Some x) w.entered.is_code) here)

    -- what stands at a place of a body stands in the body
    spot_has : (p : Place) (x : Spot) → spot_at (body_sequence gives c) p ≡ Some x → Has (all_ops x.code) → Has (all_ops c)
    spot_has p x e h =
        let f = found (body_sequence gives c) p x e in
        sequence_has p.steps f.sequence f.there (after_has p.position f.sequence.code x.code f.part.after h)

-- an item of a list passes
one_passes : {A : Type 0} (test : A → Bool) (xs : List A) (n : ℕ) (x : A) → slice_get xs n ≡ Some x → test x ≡ true → list_any test xs ≡ true
one_passes test xs n x at e = by (list_any test xs) refl
  where
    by : (b : Bool) → list_any test xs ≡ b → b ≡ true
    by true k = refl
    by false k = sym (none_of test xs n x k at) ∙ e

-- an operation at which an activation stands
pub meets_bytes : (m : Module) (a : Activation) (v : Visit) → StandsAt m a v → (op : NumOp) (is : Code) → a.code ≡ cons (num op) is → takes_bytes op ≡ true → uses_bytes m ≡ true
meets_bytes m a v s op is e t =
    let here : list_any op_takes_bytes (all_ops s.spot.code) ≡ true = ap (λ (c : Code). list_any op_takes_bytes (all_ops c)) (sym s.code ∙ e) ∙ first_true (takes_bytes op) (list_any op_takes_bytes (all_ops is)) t in
    one_passes function_takes_bytes m.funcs a.func s.func s.is_function.there (spot_has op_takes_bytes (first_of s.type.results) (code_of s.func.body) s.place s.spot s.there here)
