-- The halves of an integer below 2^64.
use Rattle.std.proofs.Common.{◌≡◌, ℕ, suc, ◌-◌, ◌/◌, ◌%◌, ◌<◌, true, ℤ, pos, negsuc, sym, ap, ◌∙◌, arith, ⊎_elim}
use Rattle.std.specs.Prelude.{if◌then◌else◌, ◌&&◌}
use Rattle.std.specs.Int.{w8, w16, w32, w64, int_wrap, cast_signed, cast_unsigned}
use Rattle.std.proofs.lemmas.Int.{to_z-of_z, int_wrap_fits, of_z-to_z}
use Rattle.std.proofs.lemmas.Bool.{cases_lt, le-ltb, le-leb, lt-ltb, ltb-true}
use lib.Signed.{mag}
use mir.ValLaws.{of_z_fits}
use Rattle.mc_nbt.specs.Word.{is_int, is_long}
use Rattle.mc_cmd.specs.Command.{up_to}
use Rattle.mc_cmd.specs.World.{is_in}
use Rattle.mc_cmd.specs.Pack.{high_half}
use Rattle.cc_line.proofs.Longs.{low_word, high_word, long_fits}
use Rattle.cc_line.proofs.Words.{score_is_int, int_fits}

-- ---- of a long

pub record Long (z : ℤ) (n : ℕ) : Type 0 where
  pub below : n < 18446744073709551616
  pub low : cast_unsigned w32 (int_wrap w32 z) ≡ n % 4294967296
  pub high : cast_unsigned w32 (high_half z) ≡ n / 4294967296
  pub low_int : is_int (int_wrap w32 z) ≡ true
  pub high_int : is_int (high_half z) ≡ true

pub long_halves : (z : ℤ) → is_long z ≡ true → Long z (cast_unsigned w64 z)
long_halves z i =
    let n : ℕ = cast_unsigned w64 z in
    let h : n < 18446744073709551616 = (of_z_fits w64 z (long_fits z i)).fits in
    let e : cast_signed w64 n ≡ z = to_z-of_z w64 z (long_fits z i) in
    let l : int_wrap w32 z ≡ cast_signed w32 (n % 4294967296) = ap (int_wrap w32) (sym e) ∙ low_word n h in
    let g : high_half z ≡ cast_signed w32 (n / 4294967296) = ap high_half (sym e) ∙ high_word n h in
    record {
      below = h;
      low = ap (cast_unsigned w32) l ∙ of_z-to_z w32 (n % 4294967296) (omega arith);
      high = ap (cast_unsigned w32) g ∙ of_z-to_z w32 (n / 4294967296) (omega arith);
      low_int = ap is_int l ∙ score_is_int (n % 4294967296) (omega arith);
      high_int = ap is_int g ∙ score_is_int (n / 4294967296) (omega arith);
    }

-- ---- of an int that is extended with its sign

abbrev pub sign : ℤ → ℤ
sign z = if is_in (up_to (negsuc 0)) z && true then negsuc 0 else pos 0

pub extended_low : (z : ℤ) → is_int z ≡ true → cast_signed w32 (cast_unsigned w32 z) ≡ z
extended_low z i = to_z-of_z w32 z (int_fits z i)

wide : (z : ℤ) → is_int z ≡ true → cast_signed w64 (cast_unsigned w64 z) ≡ z
wide z i = let l : mag z < 2147483648 = ltb-true (mag z) 2147483648 i in to_z-of_z w64 z (record { sfits = omega arith })

sign_is : (z : ℤ) → is_int z ≡ true → high_half z ≡ sign z
sign_is (pos n) i =
    let l : n < 2147483648 = ltb-true n 2147483648 i in
    let e : n / 4294967296 ≡ 0 = omega arith in
    ap pos e
sign_is (negsuc n) i =
    let l : n < 2147483648 = ltb-true n 2147483648 i in
    let e : n / 4294967296 ≡ 0 = omega arith in
    ap negsuc e ∙ ap (λ b. if b && true then negsuc 0 else pos 0) (sym (le-leb 0 n (omega arith)))

pub extended : (z : ℤ) → is_int z ≡ true → (int_wrap w32 (cast_signed w64 (cast_unsigned w64 z)) ≡ z) × (high_half (cast_signed w64 (cast_unsigned w64 z)) ≡ sign z)
extended z i = (ap (int_wrap w32) (wide z i) ∙ int_wrap_fits w32 z (int_fits z i), ap high_half (wide z i) ∙ sign_is z i)

-- a few bytes read with their sign
pub byte_int : (n : ℕ) → is_int (cast_signed w8 n) ≡ true
byte_int n =
    ⊎_elim (λ l. ap (λ b. is_int (if b then pos n else negsuc (256 - suc n))) (lt-ltb n 128 l) ∙ lt-ltb n 2147483648 (omega arith))
    (λ g. ap (λ b. is_int (if b then pos n else negsuc (256 - suc n))) (le-ltb n 128 g) ∙ lt-ltb (256 - suc n) 2147483648 (omega arith))
    (cases_lt n 128)

pub half_int : (n : ℕ) → is_int (cast_signed w16 n) ≡ true
half_int n =
    ⊎_elim (λ l. ap (λ b. is_int (if b then pos n else negsuc (65536 - suc n))) (lt-ltb n 32768 l) ∙ lt-ltb n 2147483648 (omega arith))
    (λ g. ap (λ b. is_int (if b then pos n else negsuc (65536 - suc n))) (le-ltb n 32768 g) ∙ lt-ltb (65536 - suc n) 2147483648 (omega arith))
    (cases_lt n 32768)

pub any_word_int : (n : ℕ) → is_int (cast_signed w32 n) ≡ true
any_word_int n =
    ⊎_elim (λ l. ap (λ b. is_int (if b then pos n else negsuc (4294967296 - suc n))) (lt-ltb n 2147483648 l) ∙ lt-ltb n 2147483648 l)
    (λ g. ap (λ b. is_int (if b then pos n else negsuc (4294967296 - suc n))) (le-ltb n 2147483648 g) ∙ lt-ltb (4294967296 - suc n) 2147483648 (omega arith))
    (cases_lt n 2147483648)

-- ---- of an int that is extended with zeros

pub extended_zero : (n : ℕ) → n < 4294967296 → (int_wrap w32 (cast_signed w64 n) ≡ cast_signed w32 n) × (high_half (cast_signed w64 n) ≡ pos 0)
extended_zero n h =
    let l : n % 4294967296 ≡ n = omega arith in
    let g : n / 4294967296 ≡ 0 = omega arith in
    (low_word n (omega arith) ∙ ap (cast_signed w32) l, high_word n (omega arith) ∙ ap (cast_signed w32) g)
