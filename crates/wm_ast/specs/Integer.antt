-- The operators on integers (4.3.2) and the conversions between their widths (4.3.4). An integer of the type iN is a
-- whole number from 0 to below 2^N. Its width `w` tells N, which is `bits w`. Of std are
--     cast_signed w i      signed_N(i): i where i is below 2^(N-1), and else i - 2^N (4.3.2.1)
--     cast_unsigned w z    the integer of which z is the signed reading
--     int_div, int_rem     the quotient, rounded towards zero, and the remainder, with the dividend's sign
--     int_shr z k          z / 2^k, rounded down
use Rattle.std.specs.Prelude.{ℕ, zero, suc, ◌+◌, ◌-◌, ◌*◌, ◌/◌, ◌%◌, ◌^◌, ℤ, pos, negsuc, Bool, not, ◌==◌, nat_lt}
use Rattle.std.specs.Prelude.{nat_le, int_lt, int_le, int_div, int_rem, bit_and, bit_or, bit_xor, count_ones}
use Rattle.std.specs.Prelude.{if◌then◌else◌}
use Rattle.std.specs.Int.{Width, cast_signed, cast_unsigned, int_shr, leading_zeros, trailing_zeros}
use mir.Val.{bits}

-- what a division gives: an integer, or one of the two cases in which the standard leaves it undefined
pub data Outcome : Type 0 where
  number : ℕ → Outcome
  divides_by_zero overflows : Outcome

-- the sum, the difference and the product modulo 2^N (4.3.2.3 to 4.3.2.5)
abbrev pub iadd : Width → ℕ → ℕ → ℕ
iadd w i j = (i + j) % 2 ^ bits w

abbrev pub isub : Width → ℕ → ℕ → ℕ
isub w i j = (i + (2 ^ bits w - j)) % 2 ^ bits w

abbrev pub imul : Width → ℕ → ℕ → ℕ
imul w i j = (i * j) % 2 ^ bits w

-- the quotient, rounded towards zero (4.3.2.6, 4.3.2.7). The signed one of the least number by -1 is 2^(N-1), which
-- isn't a signed number of N bits.
abbrev pub idiv_u : Width → ℕ → ℕ → Outcome
idiv_u w i zero = divides_by_zero
idiv_u w i (suc j) = number (i / suc j)

abbrev pub in_range : Width → ℤ → Outcome
in_range w (pos q) = if q == 2 ^ (bits w - 1) then overflows else number q
in_range w (negsuc q) = number (cast_unsigned w (negsuc q))

abbrev pub idiv_s : Width → ℕ → ℕ → Outcome
idiv_s w i zero = divides_by_zero
idiv_s w i (suc j) = in_range w (int_div (cast_signed w i) (cast_signed w (suc j)))

-- the remainder; the signed one has the dividend's sign (4.3.2.8, 4.3.2.9)
abbrev pub irem_u : Width → ℕ → ℕ → Outcome
irem_u w i zero = divides_by_zero
irem_u w i (suc j) = number (i % suc j)

abbrev pub irem_s : Width → ℕ → ℕ → Outcome
irem_s w i zero = divides_by_zero
irem_s w i (suc j) = number (cast_unsigned w (int_rem (cast_signed w i) (cast_signed w (suc j))))

-- bit by bit (4.3.2.10 to 4.3.2.12)
abbrev pub iand : Width → ℕ → ℕ → ℕ
iand w i j = bit_and i j

abbrev pub ior : Width → ℕ → ℕ → ℕ
ior w i j = bit_or i j

abbrev pub ixor : Width → ℕ → ℕ → ℕ
ixor w i j = bit_xor i j

-- shifts, by a count modulo N (4.3.2.13 to 4.3.2.15): zeros come in, and at `ishr_s` copies of the sign's bit
abbrev pub ishl : Width → ℕ → ℕ → ℕ
ishl w i k = (i * 2 ^ (k % bits w)) % 2 ^ bits w

abbrev pub ishr_u : Width → ℕ → ℕ → ℕ
ishr_u w i k = i / 2 ^ (k % bits w)

abbrev pub ishr_s : Width → ℕ → ℕ → ℕ
ishr_s w i k = cast_unsigned w (int_shr (cast_signed w i) (k % bits w))

-- rotations, by a count modulo N (4.3.2.16, 4.3.2.17): the bits that fall out at one end come in at the other. To the
-- right is the rest of a whole turn to the left.
abbrev pub rotated : Width → ℕ → ℕ → ℕ
rotated w i k = (i * 2 ^ k) % 2 ^ bits w + (i * 2 ^ k) / 2 ^ bits w

abbrev pub irotl : Width → ℕ → ℕ → ℕ
irotl w i k = rotated w i (k % bits w)

abbrev pub irotr : Width → ℕ → ℕ → ℕ
irotr w i k = rotated w i (bits w - k % bits w)

-- the zeros above the highest one and those below the lowest one, N where there is none, and the ones
-- (4.3.2.18 to 4.3.2.20)
abbrev pub iclz : Width → ℕ → ℕ
iclz w i = leading_zeros w i

abbrev pub ictz : Width → ℕ → ℕ
ictz w i = trailing_zeros w i

abbrev pub ipopcnt : Width → ℕ → ℕ
ipopcnt w i = count_ones i

-- a test and comparisons (4.3.2.21 to 4.3.2.31)
abbrev pub ieqz : Width → ℕ → Bool
ieqz w i = i == 0

abbrev pub ieq : Width → ℕ → ℕ → Bool
ieq w i j = i == j

abbrev pub ine : Width → ℕ → ℕ → Bool
ine w i j = not (i == j)

abbrev pub ilt_u : Width → ℕ → ℕ → Bool
ilt_u w i j = nat_lt i j

abbrev pub ilt_s : Width → ℕ → ℕ → Bool
ilt_s w i j = int_lt (cast_signed w i) (cast_signed w j)

abbrev pub igt_u : Width → ℕ → ℕ → Bool
igt_u w i j = nat_lt j i

abbrev pub igt_s : Width → ℕ → ℕ → Bool
igt_s w i j = int_lt (cast_signed w j) (cast_signed w i)

abbrev pub ile_u : Width → ℕ → ℕ → Bool
ile_u w i j = nat_le i j

abbrev pub ile_s : Width → ℕ → ℕ → Bool
ile_s w i j = int_le (cast_signed w i) (cast_signed w j)

abbrev pub ige_u : Width → ℕ → ℕ → Bool
ige_u w i j = nat_le j i

abbrev pub ige_s : Width → ℕ → ℕ → Bool
ige_s w i j = int_le (cast_signed w j) (cast_signed w i)

-- conversions from M bits to N (4.3.4.1 to 4.3.4.3)
abbrev pub extend_u : Width → Width → ℕ → ℕ
extend_u m n i = i

abbrev pub extend_s : Width → Width → ℕ → ℕ
extend_s m n i = cast_unsigned n (cast_signed m i)

abbrev pub wrap : Width → Width → ℕ → ℕ
wrap m n i = i % 2 ^ bits n

-- the low M bits as a signed number (`iextendM_s` of edition 2.0, there in 4.3.2)
abbrev pub iextend_s : Width → Width → ℕ → ℕ
iextend_s m w i = extend_s m w (wrap w m i)
