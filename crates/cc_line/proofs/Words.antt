-- A word is a number below 2^32; its score is its signed reading.
use Rattle.std.proofs.Common.{◌≡◌, ℕ, suc, ◌+◌, ◌-◌, ◌*◌, ◌%◌, ◌<◌, ℤ, pos, negsuc, ◌+ℤ◌, ◌-ℤ◌, ◌*ℤ◌, true, false, nat_lt, nat_le, int_lt, int_le, FitsSigned, arith, sym, ap, ap₂, ◌∙◌, subst, ⊎_elim, le-ltb, zero-le}
use Rattle.std.proofs.lemmas.Bool.{ltb-true}
use lib.Signed.{mag}
use mir.ValLaws.{of_z_fits}
use Rattle.mc_nbt.specs.Word.{is_int}
use Rattle.std.proofs.lemmas.Int.{ints, to_z_pos, wrapping_add-bits, wrapping_sub-bits, wrapping_mul-bits, int_wrap_fits, to_z-of_z}
use Rattle.std.proofs.lemmas.Bool.{cases_lt, cond-false, lt-leb, le-leb, lt-ltb}
use Rattle.std.specs.Int.{w32, cast_signed, cast_unsigned}
use Rattle.mc_cmd.specs.Command.{from, up_to}
use Rattle.mc_cmd.specs.World.{wrapped, is_in}

abbrev pub score : ℕ → ℤ
score m = cast_signed w32 m

pub low_score : (m : ℕ) → m < 2147483648 → score m ≡ pos m
low_score m h = to_z_pos w32 m h

-- the words from 2^31 on, counted from the highest down
pub high_score : (k : ℕ) → k < 2147483648 → score (4294967295 - k) ≡ negsuc k
high_score k h =
    cond-false (nat_lt (4294967295 - k) 2147483648) (pos (4294967295 - k)) (negsuc (4294967296 - suc (4294967295 - k))) (le-ltb (4294967295 - k) 2147483648 (omega arith))
    ∙ ap negsuc (omega arith)

-- what holds of a word and its score: by the sign
pub by_sign : (P : ℕ → ℤ → Type 0) → ((m : ℕ) → m < 2147483648 → P m (pos m)) → ((k : ℕ) → k < 2147483648 → P (4294967295 - k) (negsuc k)) → (m : ℕ) → m < 4294967296 → P m (score m)
by_sign P low high m h =
    ⊎_elim (λ l. subst (P m) (sym (low_score m l)) (low m l))
    (λ g.
    let k : ℕ = 4294967295 - m in
    let e : 4294967295 - k ≡ m = omega arith in
    let lt : k < 2147483648 = omega arith in
    subst (λ x. P x (score x)) e (subst (P (4294967295 - k)) (sym (high_score k lt)) (high k lt)))
    (cases_lt m 2147483648)

-- of two words
pub by_signs : (P : ℕ → ℤ → ℕ → ℤ → Type 0)
    → ((m n : ℕ) → m < 2147483648 → n < 2147483648 → P m (pos m) n (pos n))
    → ((m k : ℕ) → m < 2147483648 → k < 2147483648 → P m (pos m) (4294967295 - k) (negsuc k))
    → ((k n : ℕ) → k < 2147483648 → n < 2147483648 → P (4294967295 - k) (negsuc k) n (pos n))
    → ((k l : ℕ) → k < 2147483648 → l < 2147483648 → P (4294967295 - k) (negsuc k) (4294967295 - l) (negsuc l))
    → (m n : ℕ) → m < 4294967296 → n < 4294967296 → P m (score m) n (score n)
by_signs P pp pn np nn m n hm hn =
    by_sign (λ x s. P x s n (score n))
    (λ x hx. by_sign (λ y t. P x (pos x) y t) (λ y hy. pp x y hx hy) (λ l hl. pn x l hx hl) n hn)
    (λ k hk. by_sign (λ y t. P (4294967295 - k) (negsuc k) y t) (λ y hy. np k y hk hy) (λ l hl. nn k l hk hl) n hn)
    m hm

-- scores that are words already
pub unwrapped : (z : ℤ) → FitsSigned w32 z → wrapped z ≡ z
unwrapped z f = int_wrap_fits w32 z f

pub unwrapped_pos : (n : ℕ) → n < 2147483648 → wrapped (pos n) ≡ pos n
unwrapped_pos n h = int_wrap_fits w32 (pos n) (record { sfits = h })

pub unwrapped_neg : (n : ℕ) → n < 2147483648 → wrapped (negsuc n) ≡ negsuc n
unwrapped_neg n h = int_wrap_fits w32 (negsuc n) (record { sfits = h })

-- sums, differences and products of scores are those of the words
pub sum_of : (m n : ℕ) → m < 4294967296 → n < 4294967296 → wrapped (score m +ℤ score n) ≡ score ((m + n) % 4294967296)
sum_of m n p q = sym (wrapping_add-bits w32 m n p q)

pub difference_of : (m n : ℕ) → m < 4294967296 → n < 4294967296 → wrapped (score m -ℤ score n) ≡ score ((m + (4294967296 - n)) % 4294967296)
difference_of m n p q = sym (wrapping_sub-bits w32 m n p q)

pub product_of : (m n : ℕ) → m < 4294967296 → n < 4294967296 → wrapped (score m *ℤ score n) ≡ score ((m * n) % 4294967296)
product_of m n p q = sym (wrapping_mul-bits w32 m n p q)

-- tests of the sign
pub negative_is : (m : ℕ) → m < 4294967296 → is_in (up_to (negsuc 0)) (score m) ≡ nat_le 2147483648 m
negative_is = by_sign (λ m a. is_in (up_to (negsuc 0)) a ≡ nat_le 2147483648 m)
    (λ m h. sym (lt-leb 2147483648 m h))
    (λ k h. le-leb 0 k zero-le ∙ sym (le-leb 2147483648 (4294967295 - k) (omega arith)))

pub not_negative_is : (m : ℕ) → m < 4294967296 → is_in (from (pos 0)) (score m) ≡ nat_lt m 2147483648
not_negative_is = by_sign (λ m a. is_in (from (pos 0)) a ≡ nat_lt m 2147483648)
    (λ m h. le-leb 0 m zero-le ∙ sym (lt-ltb m 2147483648 h))
    (λ k h. sym (le-ltb (4294967295 - k) 2147483648 (omega arith)))

-- a word with its top bit turned: the order of such scores is that of the words
abbrev pub flipped : ℤ → ℤ
flipped a = wrapped (a +ℤ negsuc 2147483647)

pub flipped_is : (m : ℕ) → m < 4294967296 → flipped (score m) ≡ pos m -ℤ pos 2147483648
flipped_is m h =
    sum_of m 2147483648 h (omega arith)
    ∙ ⊎_elim
    (λ l. ap score (omega arith) ∙ high_score (2147483647 - m) (omega arith) ∙ omega (arith, ints))
    (λ g. ap score (omega arith) ∙ low_score (m - 2147483648) (omega arith) ∙ omega (arith, ints))
    (cases_lt m 2147483648)

shifted_lt : (m n : ℕ) → int_lt (pos m -ℤ pos 2147483648) (pos n -ℤ pos 2147483648) ≡ nat_lt m n
shifted_lt m n =
    ⊎_elim
    (λ l. sym (let t : true ≡ int_lt (pos m -ℤ pos 2147483648) (pos n -ℤ pos 2147483648) = omega (arith, ints) in t) ∙ sym (lt-ltb m n l))
    (λ g. sym (let t : false ≡ int_lt (pos m -ℤ pos 2147483648) (pos n -ℤ pos 2147483648) = omega (arith, ints) in t) ∙ sym (le-ltb m n g))
    (cases_lt m n)

shifted_le : (m n : ℕ) → int_le (pos m -ℤ pos 2147483648) (pos n -ℤ pos 2147483648) ≡ nat_le m n
shifted_le m n =
    ⊎_elim
    (λ l. sym (let t : false ≡ int_le (pos m -ℤ pos 2147483648) (pos n -ℤ pos 2147483648) = omega (arith, ints) in t) ∙ sym (lt-leb m n l))
    (λ g. sym (let t : true ≡ int_le (pos m -ℤ pos 2147483648) (pos n -ℤ pos 2147483648) = omega (arith, ints) in t) ∙ sym (le-leb m n g))
    (cases_lt n m)

pub flipped_lt : (m n : ℕ) → m < 4294967296 → n < 4294967296 → int_lt (flipped (score m)) (flipped (score n)) ≡ nat_lt m n
flipped_lt m n p q = ap₂ int_lt (flipped_is m p) (flipped_is n q) ∙ shifted_lt m n

pub flipped_le : (m n : ℕ) → m < 4294967296 → n < 4294967296 → int_le (flipped (score m)) (flipped (score n)) ≡ nat_le m n
flipped_le m n p q = ap₂ int_le (flipped_is m p) (flipped_is n q) ∙ shifted_le m n

pub fits_score : (m : ℕ) → m < 4294967296 → FitsSigned w32 (score m)
fits_score = by_sign (λ m a. FitsSigned w32 a) (λ m h. record { sfits = h }) (λ k h. record { sfits = h })

-- ints are scores of words
pub int_fits : (z : ℤ) → is_int z ≡ true → FitsSigned w32 z
int_fits z f = record { sfits = ltb-true (mag z) 2147483648 f }

pub score_is_int : (m : ℕ) → m < 4294967296 → is_int (score m) ≡ true
score_is_int = by_sign (λ m a. is_int a ≡ true) (λ m h. lt-ltb m 2147483648 h) (λ k h. lt-ltb k 2147483648 h)

-- what holds of each word and its score holds of each int and its word
pub by_word : (P : ℕ → ℤ → Type 0) → ((m : ℕ) → m < 4294967296 → P m (score m)) → (z : ℤ) → is_int z ≡ true → P (cast_unsigned w32 z) z
by_word P f z i = subst (P (cast_unsigned w32 z)) (to_z-of_z w32 z (int_fits z i)) (f (cast_unsigned w32 z) (of_z_fits w32 z (int_fits z i)).fits)
