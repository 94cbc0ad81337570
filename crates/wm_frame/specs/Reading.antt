-- Numbers, read from the left: what stands at the front of the bytes, and the bytes after it.
use Rattle.std.specs.Prelude.{ℕ, ◌+◌, ◌-◌, ◌*◌, ◌^◌, List, [], ◌∷◌, Option, Some, None, nat_lt, if◌then◌else◌, ℤ, pos}
use Rattle.std.specs.Prelude.{neg_ℤ, ◌+ℤ◌, ◌*ℤ◌, ◌≤ℤ◌, ◌<ℤ◌}
use Rattle.wm_ast.specs.Number.{below_zero}

-- what stands at the front, and the bytes after it, or none where nothing of its kind stands there
abbrev pub Reader : Type 0 → Type 0
Reader A = List ℕ → Option (A × List ℕ)

infixl 10 ◌>>=◌
-- goes on with what was read
abbrev pub ◌>>=◌ : {A B : Type 0} → Option A → (A → Option B) → Option B
None >>= f = None
(Some x) >>= f = f x

-- an unsigned number of one byte
abbrev pub unsigned_last : ℕ → ℕ → List ℕ → Option (ℕ × List ℕ)
unsigned_last bits b rest = if nat_lt b (2 ^ bits) then Some (b, rest) else None

-- a byte below the number that the bytes after it spell
abbrev pub unsigned_more : ℕ → ℕ → Option (ℕ × List ℕ) → Option (ℕ × List ℕ)
unsigned_more bits b None = None
unsigned_more bits b (Some high) = if nat_lt 7 bits then Some (128 * high.0 + (b - 128), high.1) else None

-- an unsigned number of so many bits
unfoldable pub unsigned_at : ℕ → Reader ℕ
unsigned_at bits [] = None
unsigned_at bits (b ∷ bs) =
    if nat_lt b 128 then unsigned_last bits b bs else unsigned_more bits b (unsigned_at (bits - 7) bs)

-- a signed number of one byte
abbrev pub signed_last : ℕ → ℕ → List ℕ → Option (ℤ × List ℕ)
signed_last bits b rest =
    if nat_lt b 64
    then (if nat_lt b (2 ^ (bits - 1)) then Some (pos b, rest) else None)
    else (if nat_lt (b + 2 ^ (bits - 1)) 128 then None else Some (below_zero b, rest))

abbrev pub signed_more : ℕ → ℕ → Option (ℤ × List ℕ) → Option (ℤ × List ℕ)
signed_more bits b None = None
signed_more bits b (Some high) = if nat_lt 7 bits then Some ((pos 128 *ℤ high.0) +ℤ pos (b - 128), high.1) else None

-- a signed number of so many bits
unfoldable pub signed_at : ℕ → Reader ℤ
signed_at bits [] = None
signed_at bits (b ∷ bs) = if nat_lt b 128 then signed_last bits b bs else signed_more bits b (signed_at (bits - 7) bs)

-- at least -2 ^ (bits - 1) and below 2 ^ (bits - 1)
pub record IsWithin (bits : ℕ) (n : ℤ) : Type 0 where
  pub least : neg_ℤ (pos (2 ^ (bits - 1))) ≤ℤ n
  pub most : n <ℤ pos (2 ^ (bits - 1))
