-- Counts as they are told.
use Rattle.std.proofs.Common.{◌≡◌, ℕ, ◌<◌, ◌^◌, ◌-◌, List, [], ◌∷◌, map, find, nat_lt, cond, Bool, true, false, Option, Some, None, option_map, refl, sym, ◌∙◌, arith}
use Rattle.std.proofs.lemmas.Bool.Decides.{nat_tests}
use Rattle.wm_profile.specs.Cause.{over}
use Rattle.wm_profile.specs.steps.Counted.{told, limit_fault, found_fault}

told_above : (most n : ℕ) → most < 2 ^ 64 - 1 → nat_lt most (told n) ≡ nat_lt most n
told_above most n h = grind (arith, nat_tests)

told_twice : (n : ℕ) → told (told n) ≡ told n
told_twice n = omega arith

in_steps : (which most : ℕ) (first : Option ℕ) → found_fault which most first ≡ option_map over (option_map (λ count. record { which = which; found = count; most = most }) first)
in_steps which most None = refl
in_steps which most (Some count) = refl

-- what is found first tells of the limit
pub found : (which most : ℕ) (counts : List ℕ) → found_fault which most (find (nat_lt most) counts) ≡ limit_fault which counts most
found which most counts = in_steps which most (find (nat_lt most) counts)

first_told : (which most n : ℕ) (b : Bool) (xs ys : Option ℕ) → found_fault which most xs ≡ found_fault which most ys → found_fault which most (cond b (Some (told n)) xs) ≡ found_fault which most (cond b (Some n) ys)
first_told which most n true xs ys h = rw (told_twice n)
first_told which most n false xs ys h = h

find_among : {X : Type 0} (which most : ℕ) (g : X → ℕ) (xs : List X) → most < 2 ^ 64 - 1 → found_fault which most (find (nat_lt most) (map (λ x. told (g x)) xs)) ≡ found_fault which most (find (nat_lt most) (map g xs))
find_among which most g [] h = refl
find_among which most g (x ∷ xs) h = rw (told_above most (g x) h) (first_told which most (g x) (nat_lt most (g x)) _ _ (find_among which most g xs h))

-- among counts as they are told
pub find_told : {X : Type 0} (which most : ℕ) (g : X → ℕ) (xs : List X) → most < 2 ^ 64 - 1 → found_fault which most (find (nat_lt most) (map (λ x. told (g x)) xs)) ≡ limit_fault which (map g xs) most
find_told which most g xs h = find_among which most g xs h ∙ found which most (map g xs)

-- one count as it is told
pub one_told : (which most n : ℕ) → most < 2 ^ 64 - 1 → limit_fault which (told n ∷ []) most ≡ limit_fault which (n ∷ []) most
one_told which most n h = sym (found which most (told n ∷ [])) ∙ (rw (told_above most n h) (first_told which most n (nat_lt most n) None None refl) ∙ found which most (n ∷ []))
