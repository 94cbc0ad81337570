-- Items of a list by their places.
use Rattle.std.proofs.Common.{◌≡◌, ℕ, zero, suc, ◌<◌, List, [], ◌∷◌, length, map, filter, Bool, true, false, cond, Some, refl, subst, arith}
use Rattle.std.specs.Prelude.{◌||◌, slice_get, All}
use Rattle.std.specs.List.{list_any}
use Rattle.std.proofs.lemmas.Option.{get_or_from_slice_get, slice_get_within}

-- the item at a place is as all items are
pub at_place : {A : Type 0} (P : A → Type 0) (xs : List A) (n : ℕ) (x : A) → All P xs → slice_get xs n ≡ Some x → P x
at_place P xs n x h e = subst P (get_or_from_slice_get xs n x x e) (h n x (slice_get_within xs n x e))

-- there is an item at each place below the length
pub found_below : {A : Type 0} (xs : List A) (n : ℕ) → n < length xs → (x : A) × (slice_get xs n ≡ Some x)
found_below [] n h = absurd (omega arith)
found_below (x ∷ xs) zero h = (x, refl)
found_below (x ∷ xs) (suc n) h = found_below xs n (omega arith)

pub neither : (a b : Bool) → (a || b) ≡ false → (a ≡ false) × (b ≡ false)
neither true b e = absurd cc
neither false b e = (refl, e)

pub no_such : {A : Type 0} (test : A → Bool) (xs : List A) (n : ℕ) (x : A) → list_any test xs ≡ false → slice_get xs n ≡ Some x → test x ≡ false
no_such test [] n x h e = absurd cc
no_such test (y ∷ xs) zero x h e = let same : y ≡ x = cc in subst (λ z. test z ≡ false) same (neither (test y) (list_any test xs) h).0
no_such test (y ∷ xs) (suc n) x h e = no_such test xs n x (neither (test y) (list_any test xs) h).1 e

-- an item of those that pass a test, as another list has it
pub record Kept {A B : Type 0} (view : A → B) (test : A → Bool) (xs : List A) (y : B) : Type 0 where
  pub place : ℕ
  pub item : A
  pub there : slice_get xs place ≡ Some item
  pub passes : test item ≡ true
  pub seen : view item ≡ y

kept_later : {A B : Type 0} (view : A → B) (test : A → Bool) (x : A) (xs : List A) (y : B) → Kept view test xs y → Kept view test (x ∷ xs) y
kept_later view test x xs y k = record { place = suc k.place; item = k.item; there = k.there; passes = k.passes; seen = k.seen }

pub kept : {A B : Type 0} (view : A → B) (test : A → Bool) (xs : List A) (n : ℕ) (y : B) → slice_get (map view (filter test xs)) n ≡ Some y → Kept view test xs y
kept view test [] n y e = absurd cc
kept view test (x ∷ xs) n y e = by_test (λ k w. kept view test xs k y w) (test x) refl n e
  where
    by_test : ((k : ℕ) → slice_get (map view (filter test xs)) k ≡ Some y → Kept view test xs y) → (b : Bool) → test x ≡ b → (k : ℕ) → slice_get (map view (cond b (x ∷ filter test xs) (filter test xs))) k ≡ Some y → Kept view test (x ∷ xs) y
    by_test later true w zero q = record { place = 0; item = x; there = refl; passes = w; seen = cc }
    by_test later true w (suc k) q = kept_later view test x xs y (later k q)
    by_test later false w k q = kept_later view test x xs y (later k q)
