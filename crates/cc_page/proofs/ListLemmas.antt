-- Lists one behind another: what stands at a position, with other items in its place, and single items of them.
use Rattle.std.proofs.Common.{◌≡◌, ◌<◌, ◌≤◌, ℕ, zero, suc, ◌+◌, List, [], ◌∷◌, ◌++◌, length, take, drop, Some, None, refl, sym, ap, ap₂, ◌∙◌, arith}
use Rattle.std.proofs.Common.{length-append, append_assoc}
use Rattle.std.specs.Prelude.{slice_get, slice_set, if◌then◌else◌}
use Rattle.std.proofs.Math.Seq.{take-append_seam, drop-append_seam}
use Rattle.std.proofs.lemmas.Bool.{lt-ltb, le-ltb}
use Rattle.std.proofs.lemmas.Option.{same_Some}
use Rattle.wm_ast.specs.Store.{items_at, overwritten}

module _ {A : Type 0} where
  taken : (a b c : List A) → take (length b) (drop (length a) (a ++ (b ++ c))) ≡ b
  taken a b c = ap (take (length b)) (drop-append_seam a (b ++ c)) ∙ take-append_seam b c

  -- the items between others
  pub items_between : (a b c : List A) (position count : ℕ) → length a ≡ position → length b ≡ count
      → items_at (a ++ (b ++ c)) position count ≡ Some b
  items_between a b c position count p q =
      let whole : List A = a ++ (b ++ c) in
      let long : position + count ≤ length whole = omega (arith, length-append a (b ++ c), length-append b c) in
      ap (λ t. if t then None else Some (take count (drop position whole))) (le-ltb (length whole) (position + count) long)
      ∙ ap₂ (λ i k. Some (take k (drop i whole))) (sym p) (sym q)
      ∙ ap Some (taken a b c)

  -- there are none beyond the end
  pub items_beyond : (xs : List A) (position count : ℕ) → length xs < position + count → items_at xs position count ≡ None
  items_beyond xs position count h =
      ap (λ t. if t then None else Some (take count (drop position xs))) (lt-ltb (length xs) (position + count) h)

  -- others in their place
  pub others_between : (a b c others : List A) (position : ℕ) → length a ≡ position → length b ≡ length others
      → overwritten (a ++ (b ++ c)) position others ≡ a ++ (others ++ c)
  others_between a b c others position p q =
      let whole : List A = a ++ (b ++ c) in
      let behind : position + length others ≡ length (a ++ b) = omega (arith, length-append a b) in
      let before : take position whole ≡ a = ap (λ i. take i whole) (sym p) ∙ take-append_seam a (b ++ c) in
      let after : drop (position + length others) whole ≡ c = ap₂ drop behind (sym (append_assoc a b c)) ∙ drop-append_seam (a ++ b) c in
      ap₂ (λ x y. x ++ (others ++ y)) before after

  -- single items of lists one behind another
  pub get_front : (xs ys : List A) (i : ℕ) → i < length xs → slice_get (xs ++ ys) i ≡ slice_get xs i
  get_front [] ys i h = absurd (omega arith)
  get_front (x ∷ xs) ys zero h = refl
  get_front (x ∷ xs) ys (suc i) h = get_front xs ys i (omega arith)

  pub get_back : (xs ys : List A) (i j : ℕ) → i ≡ length xs + j → slice_get (xs ++ ys) i ≡ slice_get ys j
  get_back [] ys i j h = let e : i ≡ j = omega arith in ap (slice_get ys) e
  get_back (x ∷ xs) ys zero j h = absurd (omega arith)
  get_back (x ∷ xs) ys (suc i) j h = get_back xs ys i j (omega arith)

  pub set_front : (xs ys : List A) (i : ℕ) (v : A) → i < length xs → slice_set (xs ++ ys) i v ≡ slice_set xs i v ++ ys
  set_front [] ys i v h = absurd (omega arith)
  set_front (x ∷ xs) ys zero v h = refl
  set_front (x ∷ xs) ys (suc i) v h = ap (λ l. x ∷ l) (set_front xs ys i v (omega arith))

  pub set_back : (xs ys : List A) (i j : ℕ) (v : A) → i ≡ length xs + j → slice_set (xs ++ ys) i v ≡ xs ++ slice_set ys j v
  set_back [] ys i j v h = let e : i ≡ j = omega arith in ap (λ k. slice_set ys k v) e
  set_back (x ∷ xs) ys zero j v h = absurd (omega arith)
  set_back (x ∷ xs) ys (suc i) j v h = ap (λ l. x ∷ l) (set_back xs ys i j v (omega arith))

-- where an item stands, with what goes before it and what follows
pub record OneItem {A : Type 0} (xs : List A) (j : ℕ) (x : A) : Type 0 where
  pub before : List A
  pub after : List A
  pub is : xs ≡ before ++ (x ∷ after)
  pub place : length before ≡ j
  pub change : (v : A) → slice_set xs j v ≡ before ++ (v ∷ after)

pub one_item : {A : Type 0} (xs : List A) (j : ℕ) (x : A) → slice_get xs j ≡ Some x → OneItem xs j x
one_item [] j x h = absurd cc
one_item (y ∷ xs) zero x h =
    record { before = []; after = xs; is = ap (λ z. z ∷ xs) (same_Some y x h); place = refl; change = λ v. refl }
one_item (y ∷ xs) (suc j) x h =
    let w : OneItem xs j x = one_item xs j x h in
    record {
      before = y ∷ w.before;
      after = w.after;
      is = ap (λ l. y ∷ l) w.is;
      place = ap suc w.place;
      change = λ v. ap (λ l. y ∷ l) (w.change v);
    }

-- and two that follow one another
pub record TwoItems {A : Type 0} (xs : List A) (j : ℕ) (x y : A) : Type 0 where
  pub before : List A
  pub after : List A
  pub is : xs ≡ before ++ (x ∷ (y ∷ after))
  pub place : length before ≡ j
  pub change : (u v : A) → slice_set (slice_set xs (suc j) v) j u ≡ before ++ (u ∷ (v ∷ after))

pub two_items : {A : Type 0} (xs : List A) (j : ℕ) (x y : A) → slice_get xs j ≡ Some x → slice_get xs (suc j) ≡ Some y
    → TwoItems xs j x y
two_items [] j x y g h = absurd cc
two_items (a ∷ []) zero x y g h = absurd cc
two_items (a ∷ (b ∷ xs)) zero x y g h = record {
  before = [];
  after = xs;
  is = ap₂ (λ c d. c ∷ (d ∷ xs)) (same_Some a x g) (same_Some b y h);
  place = refl;
  change = λ u v. refl;
}
two_items (a ∷ xs) (suc j) x y g h =
    let w : TwoItems xs j x y = two_items xs j x y g h in
    record {
      before = a ∷ w.before;
      after = w.after;
      is = ap (λ l. a ∷ l) w.is;
      place = ap suc w.place;
      change = λ u v. ap (λ l. a ∷ l) (w.change u v);
    }
