-- Shifts and rotations of words by products and quotients with powers of two.
use Rattle.std.proofs.Common.{◌≡◌, ℕ, suc, ◌+◌, ◌-◌, ◌*◌, ◌/◌, ◌%◌, ◌^◌, ◌<◌, ℤ, pos, negsuc, ◌+ℤ◌, ◌-ℤ◌, ◌*ℤ◌, Some, arith, refl, sym, ap, ap₂, ◌∙◌, subst, ⊎_elim, if◌then◌else◌, mod-lt, mod-eq_of_lt, div-le_self, FitsSigned, zero-le}
use Rattle.std.proofs.lemmas.Bool.{cases_lt, le-leb}
use Rattle.std.proofs.lemmas.Int.{ints, to_z-of_z}
use Rattle.std.proofs.lemmas.Nat.{pow-add, pow_pos, pow_below, shr-shr, shr_below, mul-add-lt}
use native.Mathlib.Nat.{div-div-eq-div-mul}
use Rattle.std.specs.Int.{w32, int_shr}
use Rattle.mc_cmd.specs.Command.{up_to}
use Rattle.mc_cmd.specs.World.{wrapped, is_in, rest_by, floor_by}
use Rattle.wm_ast.specs.Integer.{ishl, ishr_s, irotr, rotated}
use Rattle.wm_ast.proofs.IntegerLaws.{rotated_round, unrotated, fallen, kept}
use Rattle.cc_line.proofs.Words.{score, by_sign, sum_of, product_of, low_score, unwrapped, unwrapped_pos, unwrapped_neg, fits_score}
use Rattle.cc_line.proofs.Rests.{rest_pp, rest_np}

-- the count: `#k %= #n`, n being 32
pub count_is : (k : ℕ) → k < 4294967296 → rest_by (score k) (pos 32) ≡ Some (pos (k % 32))
count_is = by_sign (λ k a. rest_by a (pos 32) ≡ Some (pos (k % 32)))
    (λ m h. rest_pp m 31)
    (λ k h. rest_np k 31 ∙ ap (λ n. Some (pos n)) (omega arith))

-- 2^k and 2^(31 - k), k below 32
power_small : (k : ℕ) → k < 32 → 2 ^ k < 4294967296
power_small k h = pow_below k 32 h

-- a shift to the left: `#a *= #p`, p being the score of 2^k
pub shl_is : (m k : ℕ) → m < 4294967296 → wrapped (score m *ℤ score (2 ^ (k % 32))) ≡ score (ishl w32 m k)
shl_is m k h = product_of m (2 ^ (k % 32)) h (power_small (k % 32) (mod-lt k (omega arith)))

-- a shift to the right with the sign: `#a /= #p; #a /= #f`; p is 2^k and f is 1, but for 31 they are 2^30 and 2
pub floor_twice : (z : ℤ) (a b : ℕ) → floor_by (floor_by z a) b ≡ floor_by z (a * b)
floor_twice (pos n) a b = ap pos (div-div-eq-div-mul n a b)
floor_twice (negsuc n) a b = ap negsuc (div-div-eq-div-mul n a b)

floor_is_shift : (z : ℤ) (k : ℕ) → floor_by z (2 ^ k) ≡ int_shr z k
floor_is_shift (pos n) k = refl
floor_is_shift (negsuc n) k = refl

pub fits_floor : (z : ℤ) (n : ℕ) → FitsSigned w32 z → FitsSigned w32 (floor_by z n)
fits_floor (pos m) n f = record { sfits = omega (arith, f.sfits, div-le_self m n) }
fits_floor (negsuc m) n f = record { sfits = omega (arith, f.sfits, div-le_self m n) }

pub shr_s_is : (m k j f : ℕ) → m < 4294967296 → 2 ^ j * f ≡ 2 ^ (k % 32) → wrapped (floor_by (wrapped (floor_by (score m) (2 ^ j))) f) ≡ score (ishr_s w32 m k)
shr_s_is m k j f h e =
    let fits : FitsSigned w32 (score m) = fits_score m h in
    let fits' : FitsSigned w32 (int_shr (score m) (k % 32)) = subst (FitsSigned w32) (floor_is_shift (score m) (k % 32)) (fits_floor (score m) (2 ^ (k % 32)) fits) in
    ap (λ z. wrapped (floor_by z f)) (unwrapped (floor_by (score m) (2 ^ j)) (fits_floor (score m) (2 ^ j) fits))
    ∙ ap wrapped (floor_twice (score m) (2 ^ j) f ∙ ap (floor_by (score m)) e ∙ floor_is_shift (score m) (k % 32))
    ∙ unwrapped (int_shr (score m) (k % 32)) fits'
    ∙ sym (to_z-of_z w32 (int_shr (score m) (k % 32)) fits')

-- the same by one divisor
pub shr_s_by : (m k : ℕ) → m < 4294967296 → wrapped (floor_by (score m) (2 ^ (k % 32))) ≡ score (ishr_s w32 m k)
shr_s_by m k h =
    let fits : FitsSigned w32 (int_shr (score m) (k % 32)) = subst (FitsSigned w32) (floor_is_shift (score m) (k % 32)) (fits_floor (score m) (2 ^ (k % 32)) (fits_score m h)) in
    ap wrapped (floor_is_shift (score m) (k % 32)) ∙ unwrapped (int_shr (score m) (k % 32)) fits ∙ sym (to_z-of_z w32 (int_shr (score m) (k % 32)) fits)

-- a sum of words that stays a word
plain_sum : (m n : ℕ) → m + n < 4294967296 → wrapped (score m +ℤ score n) ≡ score (m + n)
plain_sum m n h = sum_of m n (omega arith) (omega arith) ∙ ap score (mod-eq_of_lt h)

-- ---- half a word, without its sign
abbrev pub half_of : ℤ → ℤ
half_of a = if is_in (up_to (negsuc 0)) (wrapped (floor_by a 2)) then wrapped (wrapped (floor_by a 2) -ℤ negsuc 2147483647) else wrapped (floor_by a 2)

abbrev without_sign : ℤ → ℤ
without_sign c = if is_in (up_to (negsuc 0)) c then wrapped (c -ℤ negsuc 2147483647) else c

pub half_is : (m : ℕ) → m < 4294967296 → half_of (score m) ≡ pos (m / 2)
half_is = by_sign (λ m a. half_of a ≡ pos (m / 2))
    (λ m h. ap without_sign (unwrapped_pos (m / 2) (omega arith)))
    (λ k h.
    let e : negsuc (k / 2) -ℤ negsuc 2147483647 ≡ pos ((4294967295 - k) / 2) = omega (arith, ints) in
    ap without_sign (unwrapped_neg (k / 2) (omega arith))
    ∙ ap (λ b. if b then wrapped (negsuc (k / 2) -ℤ negsuc 2147483647) else negsuc (k / 2)) (le-leb 0 (k / 2) zero-le)
    ∙ ap wrapped e ∙ unwrapped_pos ((4294967295 - k) / 2) (omega arith))

-- ---- rotations

-- the bits that come in at the bottom: half the word, without its sign, by 2^(31 - k)
one_more : (j : ℕ) → 1 + j ≡ suc j
one_more j = omega arith

sum_32 : (k l : ℕ) → l + k ≡ 31 → k + (1 + l) ≡ 32
sum_32 k l e = omega arith

pub comes_in : (m k l : ℕ) → l + k ≡ 31 → m / 2 / 2 ^ l ≡ (m * 2 ^ k) / 4294967296
comes_in m k l e =
    shr-shr m 1 l
    ∙ sym (fallen m k (1 + l))
    ∙ ap (λ n. (m * 2 ^ k) / 2 ^ n) (sum_32 k l e)

rotation_below : (m r s : ℕ) → m < 4294967296 → r + s ≡ 32 → (m * 2 ^ r) % 4294967296 + (m * 2 ^ r) / 4294967296 < 4294967296
rotation_below m r s h e =
    let e' : s + r ≡ 32 = omega arith in
    let a : (m * 2 ^ r) % 4294967296 ≡ (m % 2 ^ s) * 2 ^ r = ap (λ n. (m * 2 ^ r) % 2 ^ n) (sym e') ∙ kept m r s in
    let b : (m * 2 ^ r) / 4294967296 ≡ m / 2 ^ s = ap (λ n. (m * 2 ^ r) / 2 ^ n) (sym e) ∙ fallen m r s in
    let c : m / 2 ^ s < 2 ^ r = shr_below m r s (subst (λ n. m < 2 ^ n) (sym e) h) in
    let d : 2 ^ r * 2 ^ s ≡ 4294967296 = sym (pow-add 2 r s) ∙ ap (λ n. 2 ^ n) e in
    omega (arith, a, b, d, mul-add-lt (m % 2 ^ s) (2 ^ r) (m / 2 ^ s) (2 ^ s) (mod-lt m (pow_pos s)) c)

-- `#v *= #p; #v += #in`
pub rotation_is : (m k l : ℕ) → m < 4294967296 → l + k ≡ 31 → wrapped (wrapped (score m *ℤ score (2 ^ k)) +ℤ pos (m / 2 / 2 ^ l)) ≡ score (rotated w32 m k)
rotation_is m k l h e =
    let small : m / 2 / 2 ^ l < 2147483648 = omega (arith, div-le_self (m / 2) (2 ^ l)) in
    let sum : k + (1 + l) ≡ 32 = sum_32 k l e in
    let below : (m * 2 ^ k) % 4294967296 + (m * 2 ^ k) / 4294967296 < 4294967296 = rotation_below m k (1 + l) h sum in
    ap₂ (λ a b. wrapped (a +ℤ b)) (product_of m (2 ^ k) h (power_small k (omega arith))) (sym (low_score (m / 2 / 2 ^ l) small))
    ∙ ap (λ x. wrapped (score ((m * 2 ^ k) % 4294967296) +ℤ score x)) (comes_in m k l e)
    ∙ plain_sum ((m * 2 ^ k) % 4294967296) ((m * 2 ^ k) / 4294967296) below

-- and none for 0
pub rotation_by_none : (m : ℕ) → m < 4294967296 → wrapped (wrapped (score m *ℤ score (2 ^ 0)) +ℤ pos 0) ≡ score (rotated w32 m 0)
rotation_by_none m h = ap (λ a. wrapped (a +ℤ score 0)) (product_of m 1 h (omega arith)) ∙ sum_of (m * 1 % 4294967296) 0 (omega arith) (omega arith) ∙ ap score (omega arith)

-- a rotation to the right is one to the left by 32 - k modulo 32
pub to_the_right : (m k : ℕ) → m < 4294967296 → rotated w32 m ((32 - k % 32) % 32) ≡ irotr w32 m k
to_the_right m k h =
    ⊎_elim
    (λ z.
    let e : k % 32 ≡ 0 = omega arith in
    ap (λ r. rotated w32 m ((32 - r) % 32)) e ∙ unrotated m 32 h ∙ sym (rotated_round m 32) ∙ ap (λ r. rotated w32 m (32 - r)) (sym e))
    (λ p. ap (rotated w32 m) (omega arith))
    (cases_lt (k % 32) 1)

-- lighter: half the word, without its sign, by 2^(k - 1), for k above 0
pub shr_u_by_half : (m j : ℕ) → m < 4294967296 → wrapped (floor_by (pos (m / 2)) (2 ^ j)) ≡ score (m / 2 ^ suc j)
shr_u_by_half m j h =
    let small : m / 2 / 2 ^ j < 2147483648 = omega (arith, div-le_self (m / 2) (2 ^ j)) in
    let e : m / 2 / 2 ^ j ≡ m / 2 ^ suc j = shr-shr m 1 j ∙ ap (λ n. m / 2 ^ n) (one_more j) in
    unwrapped_pos (m / 2 / 2 ^ j) small ∙ sym (low_score (m / 2 / 2 ^ j) small) ∙ ap score e
