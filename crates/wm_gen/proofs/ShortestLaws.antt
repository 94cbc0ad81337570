-- No spelling of a number is shorter.
use Rattle.std.proofs.Common.{◌≡◌, ℕ, zero, suc, ◌-◌, ◌/◌, ◌<◌, ◌≤◌, List, [], ◌∷◌, length, ap, inl, inr, arith, pos, negsuc}
use Rattle.std.proofs.lemmas.Bool.{cases_lt}
use Rattle.std.proofs.lemmas.Int.{ints}
use mathlib.Core.Logic.{⊎_elim}
use Rattle.wm_ast.specs.Number.{IsUnsigned, IsSigned, below_zero}
use Rattle.wm_gen.specs.Shortest.{sevens, unsigned, signed}
use Rattle.wm_gen.proofs.NumberLaws.{ends, goes_on}

-- a number of one byte is no longer than anything that has a byte
one_byte : (last k n : ℕ) (b : ℕ) (bytes : List ℕ) → n < last → length (sevens last k n) ≤ length (b ∷ bytes)
one_byte last k n b bytes h = let e : length (sevens last k n) ≡ 1 = ap length (ends last k n h) in omega arith

-- a number of more bytes is no longer where what is left of it isn't
more_bytes : (last k n high : ℕ) (b : ℕ) (bytes : List ℕ) → last ≤ n → n / 128 ≡ high → ((j : ℕ) → length (sevens last j high) ≤ length bytes)
    → length (sevens last k n) ≤ length (b ∷ bytes)
unfolding sevens
more_bytes last zero n high b bytes h e later = omega arith
more_bytes last (suc k) n high b bytes h e later =
    let l : length (sevens last k high) ≤ length bytes = later k in
    let first : length (sevens last (suc k) n) ≡ suc (length (sevens last k (n / 128))) = ap length (goes_on last k n h) in
    let same : length (sevens last k (n / 128)) ≡ length (sevens last k high) = ap (λ x. length (sevens last k x)) e in
    omega arith

unsigned_sevens : (bits n : ℕ) (bytes : List ℕ) (k : ℕ) → IsUnsigned bits bytes n → length (sevens 128 k n) ≤ length bytes
unsigned_sevens bits n [] k h = absurd h
unsigned_sevens bits n (b ∷ []) k (low, fits, e) = one_byte 128 k n b [] (omega arith)
unsigned_sevens bits n (b ∷ c ∷ bs) k (low, most, more, (high, e, s)) = ⊎_elim
    (λ (l : n < 128). one_byte 128 k n b (c ∷ bs) l)
    (λ (l : 128 ≤ n). more_bytes 128 k n high b (c ∷ bs) l (omega arith) (λ j. unsigned_sevens (bits - 7) high (c ∷ bs) j s))
    (cases_lt n 128)

signed_sevens : (bits n : ℕ) (bytes : List ℕ) (k : ℕ) → IsSigned bits bytes (pos n) → length (sevens 64 k n) ≤ length bytes
unfolding below_zero
signed_sevens bits n [] k h = absurd h
signed_sevens bits n (b ∷ []) k (inl (low, fits, e)) = one_byte 64 k n b [] (omega (arith, ints))
signed_sevens bits n (b ∷ []) k (inr (low, most, fits, e)) = absurd (omega (arith, ints))
signed_sevens bits n (b ∷ c ∷ bs) k (low, most, more, (pos high, e, s)) = ⊎_elim
    (λ (l : n < 64). one_byte 64 k n b (c ∷ bs) l)
    (λ (l : 64 ≤ n). more_bytes 64 k n high b (c ∷ bs) l (omega (arith, ints)) (λ j. signed_sevens (bits - 7) high (c ∷ bs) j s))
    (cases_lt n 64)
signed_sevens bits n (b ∷ c ∷ bs) k (low, most, more, (negsuc high, e, s)) = absurd (omega (arith, ints))

pub unsigned_is_shortest : (bits n : ℕ) (bytes : List ℕ) → IsUnsigned bits bytes n → length (unsigned n) ≤ length bytes
unfolding unsigned
unsigned_is_shortest bits n bytes h = unsigned_sevens bits n bytes 9 h

pub signed_is_shortest : (bits n : ℕ) (bytes : List ℕ) → IsSigned bits bytes (pos n) → length (signed n) ≤ length bytes
unfolding signed
signed_is_shortest bits n bytes h = signed_sevens bits n bytes 9 h
