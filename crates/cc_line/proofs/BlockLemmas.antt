-- What the first blocks do.
use Rattle.std.proofs.Common.{◌≡◌, ℕ, ◌<◌, List, [], ◌∷◌, length, Option, Some, Bool, true, false, refl, sym, ap, ◌∙◌, subst, arith}
use Rattle.std.specs.Prelude.{ℤ, pos, negsuc, int_lt, ◌&&◌, if◌then◌else◌, codes, slice_set}
use Rattle.std.specs.Str.{bytes_eq}
use Rattle.std.proofs.lemmas.Bool.{ltb-true}
use Rattle.std.proofs.lemmas.Slice.Eq.{bytes_eq-Decides}
use lib.Signed.{mag}
use Rattle.mc_nbt.specs.Word.{is_int}
use Rattle.mc_cmd.specs.Form.{Text}
use Rattle.mc_cmd.specs.Command.{less, from, up_to}
use Rattle.mc_cmd.specs.World.{is_in}
use Rattle.cc_line.specs.Sight.{with_holder}
use Rattle.cc_line.specs.Place.{scratch}
use Rattle.cc_line.specs.State.{State, place_at, with_place, with_score}
use Rattle.cc_line.specs.Step.{in_range, compare, holds, Cond, conds_hold, with_kept}
use Rattle.cc_line.specs.Key.{is_work}
use Rattle.cc_line.specs.Core.{Straight, Replaced}
use Rattle.cc_line.specs.Blocks.{constant_steps, copy_steps, less_unsigned_steps, less_unsigned}

-- a place is written, and nothing else
written : (s : State) (i : ℕ) (z : ℤ) → Replaced s (with_place s i z) i (z ∷ [])
written s i z = record { places = refl; keys = λ r k e. refl; scores = λ h a b. refl }

pub constant_done : (s : State) (i : ℕ) (z : ℤ) → i < length s.places → (t : State) × Straight (constant_steps i z) s t × Replaced s t i (z ∷ [])
constant_done s i z l = (with_place s i z, record { ready = (l, λ e. tt); ends = refl }, written s i z)

pub copy_done : (s : State) (i j : ℕ) → i < length s.places → j < length s.places → (t : State) × Straight (copy_steps i j) s t × Replaced s t j (place_at s i ∷ [])
copy_done s i j l k = (with_place s j (place_at s i), record { ready = ((k, l), λ e. tt); ends = refl }, written s j (place_at s i))

-- a score of routines is written, and no other
work_apart : (g h : Text) (f : Text → Option ℤ) (z : ℤ) → is_work g ≡ true → is_work h ≡ false → with_holder f g z h ≡ f h
work_apart g h f z k w = go (bytes_eq g h) refl
  where
    go : (b : Bool) → bytes_eq g h ≡ b → (if b then Some z else f h) ≡ f h
    go true e = absurd (let y : true ≡ false = sym k ∙ ap is_work ((bytes_eq-Decides g h).0 e) ∙ w in cc)
    go false e = refl

-- signs and magnitudes decide
told : (a b : ℤ) → is_int a ≡ true → is_int b ≡ true
    → (if (is_in (from (pos 0)) a && (is_in (up_to (negsuc 0)) b && true)) then pos 1 else if (is_in (up_to (negsuc 0)) a && (is_in (from (pos 0)) b && true)) then pos 0 else if (int_lt a b && true) then pos 1 else pos 0) ≡ less_unsigned a b
told (pos m) (pos n) f g = grind arith
told (pos m) (negsuc n) f g =
    let x : m < 2147483648 = ltb-true m 2147483648 f in
    let y : mag (negsuc n) < 2147483648 = ltb-true _ _ g in
    grind arith
told (negsuc m) (pos n) f g = grind arith
told (negsuc m) (negsuc n) f g = grind arith

module _ (s : State) (i j r : ℕ) where
  abbrev A : ℤ
  A = place_at s i

  abbrev B : ℤ
  B = place_at s j

  abbrev begun : State
  begun = with_score (with_score (with_score s (codes "#a") A) (codes "#b") B) (codes "#c") (pos 0)

  abbrev first_cond : List Cond
  first_cond = holds (compare (scratch (codes "#a")) less (scratch (codes "#b"))) ∷ []

  abbrev second_cond : List Cond
  second_cond = holds (in_range (scratch (codes "#a")) (up_to (negsuc 0))) ∷ (holds (in_range (scratch (codes "#b")) (from (pos 0))) ∷ [])

  abbrev third_cond : List Cond
  third_cond = holds (in_range (scratch (codes "#a")) (from (pos 0))) ∷ (holds (in_range (scratch (codes "#b")) (up_to (negsuc 0))) ∷ [])

  -- the states behind the three conditions, by whether each holds
  abbrev after_first : Bool → State
  after_first p = if p then with_score begun (codes "#c") (pos 1) else begun

  abbrev after_second : Bool → Bool → State
  after_second p q = if q then with_score (after_first p) (codes "#c") (pos 0) else after_first p

  abbrev after_third : Bool → Bool → Bool → State
  after_third p q t = if t then with_score (after_second p q) (codes "#c") (pos 1) else after_second p q

  second_holds : (p : Bool) → conds_hold second_cond (after_first p) ≡ is_in (up_to (negsuc 0)) A && (is_in (from (pos 0)) B && true)
  second_holds true = refl
  second_holds false = refl

  third_holds : (p q : Bool) → conds_hold third_cond (after_second p q) ≡ is_in (from (pos 0)) A && (is_in (up_to (negsuc 0)) B && true)
  third_holds true true = refl
  third_holds true false = refl
  third_holds false true = refl
  third_holds false false = refl

  abbrev P : Bool
  P = conds_hold first_cond begun

  abbrev Q : Bool
  Q = conds_hold second_cond (after_first P)

  abbrev T : Bool
  T = conds_hold third_cond (after_second P Q)

  score_c : (p q t : Bool) → (after_third p q t).scores (codes "#c") ≡ Some (if t then pos 1 else if q then pos 0 else if p then pos 1 else pos 0)
  score_c p q true = refl
  score_c p true false = refl
  score_c true false false = refl
  score_c false false false = refl

  places_same : (p q t : Bool) → (after_third p q t).places ≡ s.places
  places_same true true true = refl
  places_same true true false = refl
  places_same true false true = refl
  places_same true false false = refl
  places_same false true true = refl
  places_same false true false = refl
  places_same false false true = refl
  places_same false false false = refl

  keys_same : (p q t : Bool) → (after_third p q t).keys ≡ s.keys
  keys_same true true true = refl
  keys_same true true false = refl
  keys_same true false true = refl
  keys_same true false false = refl
  keys_same false true true = refl
  keys_same false true false = refl
  keys_same false false true = refl
  keys_same false false false = refl

  begun_apart : (h : Text) → is_work h ≡ false → begun.scores h ≡ s.scores h
  begun_apart h w = work_apart (codes "#c") h (with_score (with_score s (codes "#a") A) (codes "#b") B).scores (pos 0) refl w ∙ work_apart (codes "#b") h (with_score s (codes "#a") A).scores B refl w ∙ work_apart (codes "#a") h s.scores A refl w

  first_apart : (p : Bool) (h : Text) → is_work h ≡ false → (after_first p).scores h ≡ s.scores h
  first_apart true h w = work_apart (codes "#c") h begun.scores (pos 1) refl w ∙ begun_apart h w
  first_apart false h w = begun_apart h w

  second_apart : (p q : Bool) (h : Text) → is_work h ≡ false → (after_second p q).scores h ≡ s.scores h
  second_apart p true h w = work_apart (codes "#c") h (after_first p).scores (pos 0) refl w ∙ first_apart p h w
  second_apart p false h w = first_apart p h w

  third_apart : (p q t : Bool) (h : Text) → is_work h ≡ false → (after_third p q t).scores h ≡ s.scores h
  third_apart p q true h w = work_apart (codes "#c") h (after_second p q).scores (pos 1) refl w ∙ second_apart p q h w
  third_apart p q false h w = second_apart p q h w

  pub less_done : is_int A ≡ true → is_int B ≡ true → i < length s.places → j < length s.places → r < length s.places → (t : State) × Straight (less_unsigned_steps i j r) s t × Replaced s t r (less_unsigned A B ∷ [])
  less_done f g li lj lr =
      let u : State = after_third P Q T in
      let z : u.scores (codes "#c") ≡ Some (less_unsigned A B) =
      score_c P Q T
      ∙ ap (λ t. Some (if t then pos 1 else if Q then pos 0 else if P then pos 1 else pos 0)) (third_holds P Q)
      ∙ ap (λ q. Some (if (is_in (from (pos 0)) A && (is_in (up_to (negsuc 0)) B && true)) then pos 1 else if q then pos 0 else if P then pos 1 else pos 0)) (second_holds P)
      ∙ ap Some (told A B f g) in
      let k : with_kept u r (u.scores (codes "#c")) ≡ with_place u r (less_unsigned A B) = ap (with_kept u r) z in (
        with_kept u r (u.scores (codes "#c")),
        record {
          ready = (li, λ e. (lj, λ e. (tt, λ e. ((((tt, tt), tt), λ x. tt), λ e. (((tt, (tt, tt)), λ x. tt), λ e. (((tt, (tt, tt)), λ x. tt), λ e. (subst (λ zs. r < length zs) (sym (places_same P Q T)) lr, λ e. tt)))))));
          ends = refl;
        },
        record {
          places = ap (λ (v : State). v.places) k ∙ ap (λ zs. slice_set zs r (less_unsigned A B)) (places_same P Q T);
          keys = λ x n e. ap (λ (v : State). v.keys x n) k ∙ ap (λ f. f x n) (keys_same P Q T);
          scores = λ h a w. ap (λ (v : State). v.scores h) k ∙ third_apart P Q T h w;
        },
      )
