-- The division of numbers without sign below 2^64, bit by bit from the top.
use Rattle.std.specs.Prelude.{◌≡◌, ◌<◌, ℕ, ◌+◌, ◌*◌, ◌/◌, ◌%◌, ◌^◌}

-- what is left of the dividend, with the quotient's bits so far below it; and the remainder
pub record Turn : Type 0 where
  pub dividend : ℕ
  pub remainder : ℕ

-- The j low bits of the number n are still to come, and s is 64 - j. The others are `quotient * v + remainder`, and in
-- the dividend the bits to come stand above the quotient.
pub record After (n v j s : ℕ) (t : Turn) : Type 0 where
  pub quotient : ℕ
  pub below : t.remainder < v
  pub top : n / 2 ^ j ≡ quotient * v + t.remainder
  pub small : quotient < 2 ^ s
  pub rest : t.dividend ≡ (n % 2 ^ j) * 2 ^ s + quotient
