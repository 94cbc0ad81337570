-- Signed division by the division of absolute values.
use Rattle.std.proofs.Common.{◌≡◌, ℕ, zero, suc, ◌-◌, ◌/◌, ◌%◌, ◌<◌, ◌≤◌, ℤ, pos, negsuc, neg_ℤ, Bool, true, false, not, nat_le, int_div, int_rem, arith, refl, sym, ap, ap₂, ◌∙◌, subst, ⊎_elim, if◌then◌else◌, div-le_self}
use Rattle.std.proofs.lemmas.Bool.{cases_lt, lt-leb, le-leb, leb-true, ne_eqb}
use native.Mathlib.Nat.{mod-le, div-one, div-lt_self}
use Rattle.std.specs.Int.{w64, cast_signed, cast_unsigned}
use Rattle.wm_ast.specs.Integer.{number, overflows, in_range, idiv_s, irem_s}
use Rattle.cc_div64.specs.Law.{minus, signed_by}
use Rattle.cc_line.proofs.Longs.{by_sign_64}

-- a number of 64 bits without its sign, and the number negated
abbrev pub magnitude : ℕ → ℕ
magnitude i = if nat_le 9223372036854775808 i then 18446744073709551616 - i else i

abbrev pub is_minus : ℕ → Bool
is_minus i = nat_le 9223372036854775808 i

pub by_signs_64 : (P : ℕ → ℤ → ℕ → ℤ → Type 0)
    → ((m n : ℕ) → m < 9223372036854775808 → n < 9223372036854775808 → P m (pos m) n (pos n))
    → ((m k : ℕ) → m < 9223372036854775808 → k < 9223372036854775808 → P m (pos m) (18446744073709551615 - k) (negsuc k))
    → ((k n : ℕ) → k < 9223372036854775808 → n < 9223372036854775808 → P (18446744073709551615 - k) (negsuc k) n (pos n))
    → ((k l : ℕ) → k < 9223372036854775808 → l < 9223372036854775808 → P (18446744073709551615 - k) (negsuc k) (18446744073709551615 - l) (negsuc l))
    → (m n : ℕ) → m < 18446744073709551616 → n < 18446744073709551616 → P m (cast_signed w64 m) n (cast_signed w64 n)
by_signs_64 P pp pn np nn m n hm hn =
    by_sign_64 (λ x s. P x s n (cast_signed w64 n))
    (λ x hx. by_sign_64 (λ y t. P x (pos x) y t) (λ y hy. pp x y hx hy) (λ l hl. pn x l hx hl) n hn)
    (λ k hk. by_sign_64 (λ y t. P (18446744073709551615 - k) (negsuc k) y t) (λ y hy. np k y hk hy) (λ l hl. nn k l hk hl) n hn)
    m hm

-- the magnitudes
mag_low : (m : ℕ) → m < 9223372036854775808 → magnitude m ≡ m
mag_low m h = ap (λ b. if b then 18446744073709551616 - m else m) (lt-leb 9223372036854775808 m h)

mag_high : (k : ℕ) → k < 9223372036854775808 → magnitude (18446744073709551615 - k) ≡ suc k
mag_high k h = ap (λ b. if b then 18446744073709551616 - (18446744073709551615 - k) else 18446744073709551615 - k) (le-leb 9223372036854775808 (18446744073709551615 - k) (omega arith)) ∙ omega arith

-- a number below zero as its 64 bits
minus_bits : (q : ℕ) → q ≤ 9223372036854775808 → cast_unsigned w64 (neg_ℤ (pos q)) ≡ minus q
minus_bits zero h = refl
minus_bits (suc q) h = omega arith

-- a quotient is negated where the signs differ
abbrev pub differ : Bool → Bool → Bool
differ a b = if a then not b else b

div_nonzero : (i j : ℕ) → (j ≡ 0 → ⊥) → idiv_s w64 i j ≡ in_range w64 (int_div (cast_signed w64 i) (cast_signed w64 j))
div_nonzero i zero nz = absurd (nz refl)
div_nonzero i (suc j) nz = refl

rem_nonzero : (i j : ℕ) → (j ≡ 0 → ⊥) → irem_s w64 i j ≡ number (cast_unsigned w64 (int_rem (cast_signed w64 i) (cast_signed w64 j)))
rem_nonzero i zero nz = absurd (nz refl)
rem_nonzero i (suc j) nz = refl

-- a quotient that isn't above zero
in_range_minus : (q : ℕ) → q ≤ 9223372036854775808 → in_range w64 (neg_ℤ (pos q)) ≡ number (minus q)
in_range_minus zero h = refl
in_range_minus (suc q) h = ap number (minus_bits (suc q) h)

in_range_plus : (q : ℕ) → (q ≡ 9223372036854775808 → ⊥) → in_range w64 (pos q) ≡ number q
in_range_plus q ne = ap (λ b. if b then overflows else number q) (ne_eqb q 9223372036854775808 ne)

-- only the least number by -1 gives 2^63
not_all : (k l : ℕ) → k < 9223372036854775808 → l < 9223372036854775808 → (18446744073709551615 - k ≡ 9223372036854775808 → 18446744073709551615 - l ≡ 18446744073709551615 → ⊥) → suc k / suc l ≡ 9223372036854775808 → ⊥
not_all k zero hk hl not_so e = not_so (omega (arith, div-one (suc k))) refl
not_all k (suc l) hk hl not_so e = omega (arith, div-lt_self {n = suc k} {k = suc (suc l)} (omega arith) (omega arith))

pub div_s_by_magnitudes : (i j : ℕ) → i < 18446744073709551616 → j < 18446744073709551616 → (j ≡ 0 → ⊥) → (i ≡ 9223372036854775808 → j ≡ 18446744073709551615 → ⊥)
    → idiv_s w64 i j ≡ number (signed_by (differ (is_minus i) (is_minus j)) (magnitude i / magnitude j))
div_s_by_magnitudes i j p q nz not_so =
    div_nonzero i j nz
    ∙ by_signs_64 (λ i a j b. (j ≡ 0 → ⊥) → (i ≡ 9223372036854775808 → j ≡ 18446744073709551615 → ⊥) → in_range w64 (int_div a b) ≡ number (signed_by (differ (is_minus i) (is_minus j)) (magnitude i / magnitude j)))
    (λ m n hm hn nz not_so.
    in_range_plus (m / n) (λ e. omega (arith, div-le_self m n))
    ∙ sym (ap₂ (λ a b. number (signed_by (differ a b) (magnitude m / magnitude n))) (lt-leb 9223372036854775808 m hm) (lt-leb 9223372036854775808 n hn)
    ∙ ap₂ (λ a b. number (a / b)) (mag_low m hm) (mag_low n hn)))
    (λ m k hm hk nz not_so.
    in_range_minus (m / suc k) (omega (arith, div-le_self m (suc k)))
    ∙ sym (ap₂ (λ a b. number (signed_by (differ a b) (magnitude m / magnitude (18446744073709551615 - k)))) (lt-leb 9223372036854775808 m hm) (le-leb 9223372036854775808 (18446744073709551615 - k) (omega arith))
    ∙ ap₂ (λ a b. number (minus (a / b))) (mag_low m hm) (mag_high k hk)))
    (λ k n hk hn nz not_so.
    in_range_minus (suc k / n) (omega (arith, div-le_self (suc k) n))
    ∙ sym (ap₂ (λ a b. number (signed_by (differ a b) (magnitude (18446744073709551615 - k) / magnitude n))) (le-leb 9223372036854775808 (18446744073709551615 - k) (omega arith)) (lt-leb 9223372036854775808 n hn)
    ∙ ap₂ (λ a b. number (minus (a / b))) (mag_high k hk) (mag_low n hn)))
    (λ k l hk hl nz not_so.
    in_range_plus (suc k / suc l) (not_all k l hk hl not_so)
    ∙ sym (ap₂ (λ a b. number (signed_by (differ a b) (magnitude (18446744073709551615 - k) / magnitude (18446744073709551615 - l)))) (le-leb 9223372036854775808 (18446744073709551615 - k) (omega arith)) (le-leb 9223372036854775808 (18446744073709551615 - l) (omega arith))
    ∙ ap₂ (λ a b. number (a / b)) (mag_high k hk) (mag_high l hl)))
    i j p q nz not_so

pub rem_s_by_magnitudes : (i j : ℕ) → i < 18446744073709551616 → j < 18446744073709551616 → (j ≡ 0 → ⊥)
    → irem_s w64 i j ≡ number (signed_by (is_minus i) (magnitude i % magnitude j))
rem_s_by_magnitudes i j p q nz =
    rem_nonzero i j nz
    ∙ by_signs_64 (λ i a j b. number (cast_unsigned w64 (int_rem a b)) ≡ number (signed_by (is_minus i) (magnitude i % magnitude j)))
    (λ m n hm hn. sym (ap (λ a. number (signed_by a (magnitude m % magnitude n))) (lt-leb 9223372036854775808 m hm) ∙ ap₂ (λ a b. number (a % b)) (mag_low m hm) (mag_low n hn)))
    (λ m k hm hk. sym (ap (λ a. number (signed_by a (magnitude m % magnitude (18446744073709551615 - k)))) (lt-leb 9223372036854775808 m hm) ∙ ap₂ (λ a b. number (a % b)) (mag_low m hm) (mag_high k hk)))
    (λ k n hk hn.
    ap number (minus_bits (suc k % n) (omega (arith, mod-le (suc k) n)))
    ∙ sym (ap (λ a. number (signed_by a (magnitude (18446744073709551615 - k) % magnitude n))) (le-leb 9223372036854775808 (18446744073709551615 - k) (omega arith)) ∙ ap₂ (λ a b. number (minus (a % b))) (mag_high k hk) (mag_low n hn)))
    (λ k l hk hl.
    ap number (minus_bits (suc k % suc l) (omega (arith, mod-le (suc k) (suc l))))
    ∙ sym (ap (λ a. number (signed_by a (magnitude (18446744073709551615 - k) % magnitude (18446744073709551615 - l)))) (le-leb 9223372036854775808 (18446744073709551615 - k) (omega arith)) ∙ ap₂ (λ a b. number (minus (a % b))) (mag_high k hk) (mag_high l hl)))
    i j p q

pub magnitude_below : (i : ℕ) → i < 18446744073709551616 → magnitude i < 18446744073709551616
magnitude_below i h =
    ⊎_elim (λ l. subst (λ m. m < 18446744073709551616) (sym (mag_low i l)) h)
    (λ g. subst (λ m. m < 18446744073709551616) (sym (ap (λ b. if b then 18446744073709551616 - i else i) (le-leb 9223372036854775808 i g))) (omega arith))
    (cases_lt i 9223372036854775808)

pub magnitude_above : (i : ℕ) → i < 18446744073709551616 → 0 < i → 0 < magnitude i
magnitude_above i h p =
    ⊎_elim (λ l. subst (λ m. 0 < m) (sym (mag_low i l)) p)
    (λ g. subst (λ m. 0 < m) (sym (ap (λ b. if b then 18446744073709551616 - i else i) (le-leb 9223372036854775808 i g))) (omega arith))
    (cases_lt i 9223372036854775808)

-- of the number and its negative, the one that is the magnitude
pub magnitude_is : (i : ℕ) → i < 18446744073709551616 → (b : Bool) → is_minus i ≡ b → magnitude i ≡ (if b then minus i else i)
magnitude_is i h true e = ap (λ b. if b then 18446744073709551616 - i else i) e ∙ (let g : 9223372036854775808 ≤ i = leb-true 9223372036854775808 i e in omega arith)
magnitude_is i h false e = ap (λ b. if b then 18446744073709551616 - i else i) e
