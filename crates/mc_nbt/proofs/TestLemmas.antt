-- What tests and choices that came out tell.
use Rattle.std.proofs.Common.{◌≡◌, ◌⊎◌, ℕ, Bool, true, false, Option, Some, refl, subst, eqb, inl, inr}
use Rattle.std.specs.Prelude.{◌&&◌, if◌then◌else◌}
use Rattle.std.proofs.lemmas.Bool.{and_parts, ne_eqb}
-- three of std, under names that go with those below
pub use Rattle.std.proofs.lemmas.Bool.{and_from as and_both, eqb-true as eq_same, ne_eqb as not_eq}
use Rattle.mc_nbt.specs.steps.Reading.{given}

pub and_first : (a b : Bool) → a && b ≡ true → a ≡ true
and_first a b h = (and_parts a b h).0

pub and_second : (a b : Bool) → a && b ≡ true → b ≡ true
and_second a b h = (and_parts a b h).1

-- a byte that passes a test is no byte that fails it
pub other : (p : ℕ → Bool) (c b : ℕ) → p c ≡ false → p b ≡ true → eqb b c ≡ false
other p c b n h = ne_eqb b c (λ e. let f : p c ≡ true = subst (λ x. p x ≡ true) e h in cc)

pub some_same : {A : Type 0} (x y : A) → Some x ≡ Some y → x ≡ y
some_same x y h = cc

pub if_some : {A : Type 0} (b : Bool) (x y : Option A) (r : A) → (if b then x else y) ≡ Some r → ((b ≡ true) × (x ≡ Some r)) ⊎ ((b ≡ false) × (y ≡ Some r))
if_some true x y r h = inl (refl, h)
if_some false x y r h = inr (refl, h)

pub given_some : {A : Type 0} (b : Bool) (a r : A) → given b a ≡ Some r → (b ≡ true) × (a ≡ r)
given_some true a r h = (refl, some_same a r h)
given_some false a r h = absurd cc
