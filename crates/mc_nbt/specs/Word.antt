-- The bytes of strings and keys, the order of keys, and the ranges of ints.
use Rattle.std.specs.Prelude.{ℕ, ◌^◌, ℤ, List, length, Bool, ◌&&◌, ◌||◌, not, nat_eq, nat_lt, nat_le}
use Rattle.std.specs.List.{list_all}
use Rattle.std.specs.Ordering.{nat_cmp, is_lt}
use Rattle.std.specs.Cmp.Lexicographic.{slice_cmp}
use lib.Signed.{mag}

-- a letter, a digit or `_`
abbrev pub is_name_byte : ℕ → Bool
is_name_byte b =
    (nat_le 48 b && nat_le b 57) || (nat_le 65 b && nat_le b 90) || (nat_le 97 b && nat_le b 122) || nat_eq b 95

abbrev pub is_within : ℕ → ℕ → List ℕ → Bool
is_within a b w = nat_le a (length w) && nat_le (length w) b

-- a key of a compound: 1 to 32 letters, digits, `_`
unfoldable pub is_key : List ℕ → Bool
is_key w = list_all is_name_byte w && is_within 1 32 w

-- a byte of a string: printable ASCII other than `"` and `\`
abbrev pub is_string_byte : ℕ → Bool
is_string_byte b = nat_le 32 b && (nat_le b 126 && (not (nat_eq b 34) && not (nat_eq b 92)))

-- whether a key comes before another one, by its bytes
abbrev pub comes_before : List ℕ → List ℕ → Bool
comes_before a b = is_lt (slice_cmp nat_cmp a b)

-- a number from -2147483648 to 2147483647
abbrev pub is_int : ℤ → Bool
is_int z = nat_lt (mag z) (2 ^ 31)

-- a number from -9223372036854775808 to 9223372036854775807
abbrev pub is_long : ℤ → Bool
is_long z = nat_lt (mag z) (2 ^ 63)
