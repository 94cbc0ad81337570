-- Integers in the binary format: LEB128 (5.2.2). A spelling may be longer than need be, within the bits.
use Rattle.std.specs.Prelude.{◌≡◌, ℕ, ◌+◌, ◌-◌, ◌*◌, ◌^◌, ◌<◌, ◌≤◌, List, [], ◌∷◌, ◌⊎◌, ℤ, pos, ◌+ℤ◌, ◌*ℤ◌, ◌-ℤ◌}

-- An unsigned number of so many bits. A byte below 128 is the last one. Of any other the low seven bits count, and
-- the bytes after it spell the rest.
abbrev pub IsUnsigned : ℕ → List ℕ → ℕ → Type 0
IsUnsigned bits [] n = ⊥
IsUnsigned bits (b ∷ []) n = (b < 128) × (b < 2 ^ bits) × (n ≡ b)
IsUnsigned bits (b ∷ c ∷ bs) n =
    (128 ≤ b) × (b < 256) × (7 < bits)
    × ((high : ℕ) × (n + 128 ≡ b + 128 * high) × IsUnsigned (bits - 7) (c ∷ bs) high)

-- what a last byte with the sign bit stands for
unfoldable pub below_zero : ℕ → ℤ
below_zero b = pos b -ℤ pos 128

-- the last byte of a signed number: its bit 64 is the sign, and the bits that the number doesn't reach repeat it
abbrev pub IsLastSigned : ℕ → ℕ → ℤ → Type 0
IsLastSigned bits b n =
    ((b < 64) × (b < 2 ^ (bits - 1)) × (n ≡ pos b))
    ⊎ ((64 ≤ b) × (b < 128) × (128 ≤ b + 2 ^ (bits - 1)) × (n ≡ below_zero b))

-- a signed number of so many bits
abbrev pub IsSigned : ℕ → List ℕ → ℤ → Type 0
IsSigned bits [] n = ⊥
IsSigned bits (b ∷ []) n = IsLastSigned bits b n
IsSigned bits (b ∷ c ∷ bs) n =
    (128 ≤ b) × (b < 256) × (7 < bits)
    × ((high : ℤ) × (n ≡ (pos 128 *ℤ high) +ℤ pos (b - 128)) × IsSigned (bits - 7) (c ∷ bs) high)
