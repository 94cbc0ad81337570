-- Numbers of 64 bits: their signed readings, and the two ints of these.
use Rattle.std.proofs.Common.{◌≡◌, ℕ, suc, ◌-◌, ◌/◌, ◌%◌, ◌<◌, ℤ, pos, negsuc, true, nat_lt, FitsSigned, arith, refl, sym, ap, ◌∙◌, subst, ⊎_elim, le-ltb}
use Rattle.std.proofs.lemmas.Bool.{cases_lt, cond-false, ltb-true}
use Rattle.std.proofs.lemmas.Int.{to_z_pos, to_z-of_z}
use Rattle.std.specs.Int.{w32, w64, cast_signed, cast_unsigned, int_wrap}
use lib.Signed.{mag}
use mir.ValLaws.{of_z_fits}
use Rattle.mc_nbt.specs.Word.{is_long}
use Rattle.mc_cmd.specs.Pack.{high_half}
use Rattle.cc_line.proofs.Words.{score, low_score, high_score}

pub low_64 : (i : ℕ) → i < 9223372036854775808 → cast_signed w64 i ≡ pos i
low_64 i h = to_z_pos w64 i h

-- those from 2^63 on, counted from the highest down
pub high_64 : (k : ℕ) → k < 9223372036854775808 → cast_signed w64 (18446744073709551615 - k) ≡ negsuc k
high_64 k h =
    cond-false (nat_lt (18446744073709551615 - k) 9223372036854775808) (pos (18446744073709551615 - k)) (negsuc (18446744073709551616 - suc (18446744073709551615 - k))) (le-ltb (18446744073709551615 - k) 9223372036854775808 (omega arith))
    ∙ ap negsuc (omega arith)

-- what holds of a number and its signed reading: by the sign
pub by_sign_64 : (P : ℕ → ℤ → Type 0) → ((m : ℕ) → m < 9223372036854775808 → P m (pos m)) → ((k : ℕ) → k < 9223372036854775808 → P (18446744073709551615 - k) (negsuc k)) → (m : ℕ) → m < 18446744073709551616 → P m (cast_signed w64 m)
by_sign_64 P low high m h =
    ⊎_elim (λ l. subst (P m) (sym (low_64 m l)) (low m l))
    (λ g.
    let k : ℕ = 18446744073709551615 - m in
    let e : 18446744073709551615 - k ≡ m = omega arith in
    let lt : k < 9223372036854775808 = omega arith in
    subst (λ x. P x (cast_signed w64 x)) e (subst (P (18446744073709551615 - k)) (sym (high_64 k lt)) (high k lt)))
    (cases_lt m 9223372036854775808)

-- the low half is the low word, and the high half the high one
pub low_word : (n : ℕ) → n < 18446744073709551616 → int_wrap w32 (cast_signed w64 n) ≡ score (n % 4294967296)
unfolding int_wrap
low_word = by_sign_64 (λ n z. int_wrap w32 z ≡ score (n % 4294967296))
    (λ m h. refl)
    (λ k h. let e : 4294967296 - 1 - k % 4294967296 ≡ (18446744073709551615 - k) % 4294967296 = omega arith in ap score e)

pub high_word : (n : ℕ) → n < 18446744073709551616 → high_half (cast_signed w64 n) ≡ score (n / 4294967296)
high_word = by_sign_64 (λ n z. high_half z ≡ score (n / 4294967296))
    (λ m h. sym (low_score (m / 4294967296) (omega arith)))
    (λ k h.
    let e : (18446744073709551615 - k) / 4294967296 ≡ 4294967295 - k / 4294967296 = omega arith in
    sym (ap score e ∙ high_score (k / 4294967296) (omega arith)))

pub long_fits : (z : ℤ) → is_long z ≡ true → FitsSigned w64 z
long_fits z f = record { sfits = ltb-true (mag z) 9223372036854775808 f }

-- what holds of each number and its signed reading holds of each long and its number
pub by_long : (P : ℕ → ℤ → Type 0) → ((n : ℕ) → n < 18446744073709551616 → P n (cast_signed w64 n)) → (z : ℤ) → is_long z ≡ true → P (cast_unsigned w64 z) z
by_long P f z i = subst (P (cast_unsigned w64 z)) (to_z-of_z w64 z (long_fits z i)) (f (cast_unsigned w64 z) (of_z_fits w64 z (long_fits z i)).fits)
