-- What lists contain.
use Rattle.std.proofs.Common.{◌≡◌, ℕ, zero, suc, ◌<◌, ◌⊎◌, inl, inr, List, [], ◌∷◌, ◌++◌, map, Option, Some, None, refl, sym, ap, ◌∙◌, subst, arith}
use Rattle.std.specs.Prelude.{slice_get}
use Rattle.std.specs.List.{Contains, filter_map, cons_option}
use Rattle.std.proofs.lemmas.List.Elements.{Contains-append_left, Contains-append_right, Contains-push, Contains-push_cases, Contains-append_cases}
use mathlib.Core.Logic.{⊎_elim}

-- y is one of these
abbrev pub In : {A : Type 0} → A → List A → Type 0
In y [] = ⊥
In y (x ∷ xs) = (x ≡ y) ⊎ In y xs

module _ {A : Type 0} where
  pub in_left : (y : A) (xs ys : List A) → In y xs → In y (xs ++ ys)
  in_left y [] ys h = absurd h
  in_left y (x ∷ xs) ys (inl e) = inl e
  in_left y (x ∷ xs) ys (inr h) = inr (in_left y xs ys h)

  pub in_right : (y : A) (xs ys : List A) → In y ys → In y (xs ++ ys)
  in_right y [] ys h = h
  in_right y (x ∷ xs) ys h = inr (in_right y xs ys h)

  pub in_either : (y : A) (xs ys : List A) → In y (xs ++ ys) → In y xs ⊎ In y ys
  in_either y [] ys h = inr h
  in_either y (x ∷ xs) ys (inl e) = inl (inl e)
  in_either y (x ∷ xs) ys (inr h) = ⊎_elim (λ (a : In y xs). inl (inr a)) (λ (a : In y ys). inr a) (in_either y xs ys h)

  -- ---- in the library's words

  head : (x : A) (xs : List A) → Contains (x ∷ xs) x
  head x xs = Contains-append_left (x ∷ []) xs x (Contains-push [] x)

  none : (y : A) → Contains [] y → ⊥
  none y h = let low : h.0 < 0 = h.1 in omega arith

  pub contains : (xs : List A) (y : A) → In y xs → Contains xs y
  contains [] y h = absurd h
  contains (x ∷ xs) y (inl e) = subst (λ (z : A). Contains (x ∷ xs) z) e (head x xs)
  contains (x ∷ xs) y (inr h) = Contains-append_right (x ∷ []) xs y (contains xs y h)

  pub among : (xs : List A) (y : A) → Contains xs y → In y xs
  among [] y h = absurd (none y h)
  among (x ∷ xs) y h =
      ⊎_elim
      (λ (l : Contains (x ∷ []) y). ⊎_elim (λ (n : Contains [] y). absurd (none y n)) (λ (e : x ≡ y). inl e) (Contains-push_cases [] x y l))
      (λ (r : Contains xs y). inr (among xs y r))
      (Contains-append_cases (x ∷ []) xs y h)

  pub some_of : (x y : A) → Some x ≡ Some y → x ≡ y
  some_of x y e = cc

  pub in_get : (xs : List A) (i : ℕ) (y : A) → slice_get xs i ≡ Some y → In y xs
  in_get [] i y e = absurd cc
  in_get (x ∷ xs) zero y e = inl (some_of x y e)
  in_get (x ∷ xs) (suc i) y e = inr (in_get xs i y e)

  pub get_in : (xs : List A) (y : A) → In y xs → (i : ℕ) × (slice_get xs i ≡ Some y)
  get_in [] y h = absurd h
  get_in (x ∷ xs) y (inl e) = (0, ap Some e)
  get_in (x ∷ xs) y (inr h) = let w = get_in xs y h in (suc w.0, w.1)

cons_in : {B : Type 0} (o : Option B) (ys : List B) (y : B) → In y ys → In y (cons_option o ys)
cons_in None ys y h = h
cons_in (Some z) ys y h = inr h

module _ {A B : Type 0} where
  pub in_map : (f : A → B) (xs : List A) (x : A) → In x xs → In (f x) (map f xs)
  in_map f [] x h = absurd h
  in_map f (z ∷ zs) x (inl e) = inl (ap f e)
  in_map f (z ∷ zs) x (inr h) = inr (in_map f zs x h)

  -- what is found at one of these is one of what is found
  pub in_filter : (f : A → Option B) (xs : List A) (x : A) (y : B) → In x xs → f x ≡ Some y → In y (filter_map f xs)
  in_filter f [] x y h e = absurd h
  in_filter f (z ∷ zs) x y (inl s) e = subst (λ (o : Option B). In y (cons_option o (filter_map f zs))) (sym (ap f s ∙ e)) (inl refl)
  in_filter f (z ∷ zs) x y (inr h) e = cons_in (f z) (filter_map f zs) y (in_filter f zs x y h e)

  -- and the other way
  pub filter_in : (f : A → Option B) (xs : List A) (y : B) → In y (filter_map f xs) → (x : A) × In x xs × (f x ≡ Some y)
  filter_in f [] y h = absurd h
  filter_in f (z ∷ zs) y h = by_found (f z) refl h (λ g. filter_in f zs y g)
    where
      by_found : (o : Option B) → f z ≡ o → In y (cons_option o (filter_map f zs)) → (In y (filter_map f zs) → (x : A) × In x zs × (f x ≡ Some y)) → (x : A) × In x (z ∷ zs) × (f x ≡ Some y)
      by_found None e g rest = let w = rest g in (w.0, inr w.1, w.2)
      by_found (Some b) e (inl s) rest = (z, inl refl, e ∙ ap Some s)
      by_found (Some b) e (inr g) rest = let w = rest g in (w.0, inr w.1, w.2)
