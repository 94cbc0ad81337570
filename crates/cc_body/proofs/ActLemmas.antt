-- Numbers that are carried, one after the other.
use Rattle.std.proofs.Common.{◌≡◌, ℕ, ◌+◌, ◌-◌, ◌<◌, ◌≤◌, List, [], ◌∷◌, ◌++◌, refl}
use Rattle.cc_line.specs.Step.{Act, copy_place}
use Rattle.cc_call.proofs.PushLemmas.{pair_more, pair_none, pair_starts}
use Rattle.cc_body.specs.Emit.{carry_acts}

-- so many are left to carry
pub carry_more : (n i p q source target : ℕ) → i < n → source ≡ p + i → target ≡ q + i → carry_acts (n - i) (p + i) (q + i) ≡ copy_place target source ∷ carry_acts (n - (i + 1)) (p + (i + 1)) (q + (i + 1))
carry_more n i p q source target h e f = pair_more carry_acts (λ p q. copy_place q p) (λ k p q. refl) (λ p q. refl) n i p q source target h e f

pub carry_none : (n i p q : ℕ) → n ≤ i → carry_acts (n - i) p q ≡ []
carry_none n i p q h = pair_none carry_acts (λ p q. copy_place q p) (λ k p q. refl) (λ p q. refl) n i p q h

pub carry_starts : (xs : List Act) (n p q : ℕ) → xs ++ carry_acts (n - 0) (p + 0) (q + 0) ≡ xs ++ carry_acts n p q
carry_starts xs n p q = pair_starts carry_acts (λ p q. copy_place q p) (λ k p q. refl) (λ p q. refl) xs n p q
