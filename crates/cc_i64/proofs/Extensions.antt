-- Ints as numbers of 64 bits, and the low byte and the low half of a word with copies of their sign.
use Rattle.std.proofs.Common.{◌≡◌, ℕ, ◌/◌, ◌%◌, ◌<◌, ℤ, pos, negsuc, ◌-ℤ◌, Option, unwrap_or, FitsSigned, arith, sym, ap, ◌∙◌, if◌then◌else◌, zero-le}
use Rattle.std.proofs.lemmas.Bool.{le-leb}
use Rattle.std.proofs.lemmas.Int.{to_z-of_z, int_wrap_fits}
use Rattle.std.specs.Int.{w8, w16, w32, w64, cast_signed, cast_unsigned, int_wrap}
use Rattle.mc_cmd.specs.Command.{from, up_to}
use Rattle.mc_cmd.specs.Pack.{high_half}
use Rattle.mc_cmd.specs.World.{wrapped, is_in, rest_by}
use Rattle.cc_line.proofs.Words.{score}
use Rattle.cc_line.proofs.Longs.{low_64}
use Rattle.cc_line.proofs.Rests.{low_byte, low_half, lessened_is}

-- ---- the high half behind an int

abbrev pub sign_word : ℤ → ℤ
sign_word l = if is_in (up_to (negsuc 0)) l then negsuc 0 else pos 0

low_of_int : (z : ℤ) → FitsSigned w32 z → int_wrap w32 z ≡ z
low_of_int z f = int_wrap_fits w32 z f

high_of_int : (z : ℤ) → FitsSigned w32 z → high_half z ≡ sign_word z
high_of_int (pos n) f = let g = f.sfits in let e : n / 4294967296 ≡ 0 = omega arith in ap pos e
high_of_int (negsuc n) f = let g = f.sfits in let e : n / 4294967296 ≡ 0 = omega arith in ap negsuc e ∙ sym (ap (λ b. if b then negsuc 0 else pos 0) (le-leb 0 n zero-le))

int_as_long : (z : ℤ) → FitsSigned w32 z → cast_signed w64 (cast_unsigned w64 z) ≡ z
int_as_long z f = to_z-of_z w64 z (record { sfits = (let g = f.sfits in omega arith) })

-- an int as a number of 64 bits has the int and its sign as halves
pub signed_low : (z : ℤ) → FitsSigned w32 z → int_wrap w32 (cast_signed w64 (cast_unsigned w64 z)) ≡ z
signed_low z f = ap (int_wrap w32) (int_as_long z f) ∙ low_of_int z f

pub signed_high : (z : ℤ) → FitsSigned w32 z → high_half (cast_signed w64 (cast_unsigned w64 z)) ≡ sign_word z
signed_high z f = ap high_half (int_as_long z f) ∙ high_of_int z f

-- a word as a number of 64 bits has the word and 0 as halves
pub plain_low : (m : ℕ) → m < 4294967296 → int_wrap w32 (cast_signed w64 m) ≡ score m
unfolding int_wrap
plain_low m h =
    let e : m % 4294967296 ≡ m = omega arith in
    ap (int_wrap w32) (low_64 m (omega arith)) ∙ ap score e

pub plain_high : (m : ℕ) → m < 4294967296 → high_half (cast_signed w64 m) ≡ pos 0
plain_high m h = let e : m / 4294967296 ≡ 0 = omega arith in ap high_half (low_64 m (omega arith)) ∙ ap pos e

-- ---- the scoreboard's rest by a power, as a signed number

-- what the lines leave of a number whose rest is this
abbrev pub part_of : ℕ → ℕ → ℤ → Option ℤ → ℤ
part_of power half a o = if is_in (from (pos half)) (unwrap_or o a) then wrapped (unwrap_or o a -ℤ pos power) else unwrap_or o a

pub byte_part : (m : ℕ) → m < 4294967296 → part_of 256 128 (score m) (rest_by (score m) (pos 256)) ≡ cast_signed w8 (m % 256)
byte_part m h = ap (part_of 256 128 (score m)) (low_byte m h) ∙ lessened_is 256 (m % 256) (omega arith) (omega arith)

pub half_part : (m : ℕ) → m < 4294967296 → part_of 65536 32768 (score m) (rest_by (score m) (pos 65536)) ≡ cast_signed w16 (m % 65536)
half_part m h = ap (part_of 65536 32768 (score m)) (low_half m h) ∙ lessened_is 65536 (m % 65536) (omega arith) (omega arith)
