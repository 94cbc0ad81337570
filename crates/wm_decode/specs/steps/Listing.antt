-- Vectors, bytes and names, read from the left.
use Rattle.std.specs.Prelude.{ℕ, zero, suc, List, [], ◌∷◌, length, take, drop, Option, Some, None, nat_lt, ◌==◌}
use Rattle.std.specs.Prelude.{if◌then◌else◌}
use Rattle.std.specs.Str.{is_utf8}
use Rattle.wm_frame.specs.Reading.{Reader, ◌>>=◌, unsigned_at}

-- so many values of a kind
unfoldable pub times_at : {A : Type 0} → Reader A → ℕ → Reader (List A)
times_at at zero bytes = Some ([], bytes)
times_at at (suc n) bytes = do
  first ← at bytes
  others ← times_at at n first.1
  Some (first.0 ∷ others.0, others.1)

-- three parts, one after the other, of which a value is made
abbrev pub three_at : {A B C D : Type 0} → Reader A → Reader B → Reader C → (A → B → C → D) → Reader D
three_at first second third make bytes = do
  a ← first bytes
  b ← second a.1
  c ← third b.1
  Some (make a.0 b.0 c.0, c.1)

-- a count and that many values
unfoldable pub list_at : {A : Type 0} → Reader A → Reader (List A)
list_at at bytes = unsigned_at 32 bytes >>= λ count. times_at at count.0 count.1

-- a count and that many bytes
unfoldable pub bytes_at : Reader (List ℕ)
bytes_at bytes = do
  count ← unsigned_at 32 bytes
  if nat_lt (length count.1) count.0 then None else Some (take count.0 count.1, drop count.0 count.1)

-- such bytes that are UTF-8
unfoldable pub name_at : Reader (List ℕ)
name_at bytes = bytes_at bytes >>= λ text. if is_utf8 text.0 then Some text else None

-- what follows this byte
unfoldable pub byte_at : ℕ → List ℕ → Option (List ℕ)
byte_at b [] = None
byte_at b (c ∷ bs) = if c == b then Some bs else None

-- a value after which nothing is left
abbrev pub with_rest : {A : Type 0} → A → List ℕ → Option A
with_rest x [] = Some x
with_rest x (b ∷ bs) = None

abbrev pub whole : {A : Type 0} → Option (A × List ℕ) → Option A
whole r = r >>= λ x. with_rest x.0 x.1
