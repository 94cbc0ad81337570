-- Shifts and rotations of pairs of words, by counts below 32; a count from 32 on moves the words first.
use Rattle.std.proofs.Common.{◌≡◌, ℕ, suc, ◌+◌, ◌-◌, ◌*◌, ◌/◌, ◌%◌, ◌^◌, ◌<◌, ◌≤◌, nat_le, arith, refl, sym, ap, ap₂, ◌∙◌, subst, ⊎_elim, if◌then◌else◌, mod-lt, ℤ, pos, negsuc, Bool, true, false, mul_assoc, div-add-mod', add-zero, add-mul}
use Rattle.std.proofs.lemmas.Bool.{cases_lt, lt-leb, le-leb}
use Rattle.std.proofs.lemmas.Nat.{pow-add, pow_pos, shr-shr, shr_below, div-mul-add, mul-add-lt}
use native.Mathlib.Nat.{add-mul-div_right, pow-le-pow_right}
use Rattle.std.specs.Int.{w32, w64, cast_signed, cast_unsigned, int_shr}
use Rattle.mc_cmd.specs.Pack.{high_half}
use Rattle.wm_ast.specs.Integer.{rotated}
use Rattle.wm_ast.proofs.IntegerLaws.{fallen, kept}
use Rattle.cc_line.proofs.Words.{score, by_sign}
use Rattle.cc_line.proofs.Longs.{low_64, high_64, by_sign_64}
use Rattle.cc_bits64.proofs.Pairs.{pair, high_of_pair}

times : (a b : ℕ) → a * (4294967296 * b) ≡ a * b * 4294967296
times a b = omega arith

pow_most : (i j : ℕ) → i ≤ j → 2 ^ i ≤ 2 ^ j
pow_most i j le = pow-le-pow_right (omega arith) le

-- a word split at bit k, moved by j
split : (h k j n : ℕ) → 2 ^ j * 2 ^ k ≡ n → h * 2 ^ j ≡ h / 2 ^ k * n + (h % 2 ^ k) * 2 ^ j
split h k j n e =
    let d : h / 2 ^ k * 2 ^ k + h % 2 ^ k ≡ h = div-add-mod' h (2 ^ k) in
    ap (λ m. m * 2 ^ j) (sym d)
    ∙ omega (arith, ap (λ m. h / 2 ^ k * m) (sym e))

parts_of : (a u b : ℕ) → u < a → (a - 1 - u) * b + suc u * b ≡ a * b
parts_of a u b lt = sym (add-mul (a - 1 - u) (suc u) b) ∙ ap (λ n. n * b) (omega arith)

-- two parts of words, joined, are a word
pub joined : (h l k : ℕ) → h < 4294967296 → l < 4294967296 → k ≤ 32 → (h * 2 ^ k) % 4294967296 + (l * 2 ^ k) / 4294967296 < 4294967296
joined h l k p q le =
    let s : ℕ = 32 - k in
    let e : k + (32 - k) ≡ 32 = omega arith in
    let e' : (32 - k) + k ≡ 32 = omega arith in
    let a : (h * 2 ^ k) % 4294967296 ≡ (h % 2 ^ (32 - k)) * 2 ^ k = ap (λ n. (h * 2 ^ k) % 2 ^ n) (sym e') ∙ kept h k (32 - k) in
    let b : (l * 2 ^ k) / 4294967296 ≡ l / 2 ^ (32 - k) = ap (λ n. (l * 2 ^ k) / 2 ^ n) (sym e) ∙ fallen l k (32 - k) in
    let c : l / 2 ^ (32 - k) < 2 ^ k = shr_below l k (32 - k) (subst (λ n. l < 2 ^ n) (sym e) q) in
    let d : 2 ^ k * 2 ^ (32 - k) ≡ 4294967296 = sym (pow-add 2 k (32 - k)) ∙ ap (λ n. 2 ^ n) e in
    omega (arith, a, b, d, mul-add-lt (h % 2 ^ (32 - k)) (2 ^ k) (l / 2 ^ (32 - k)) (2 ^ (32 - k)) (mod-lt h (pow_pos (32 - k))) c)

-- to the left
pub pair_shl : (h l k : ℕ) → l < 4294967296 → (pair h l * 2 ^ k) % 18446744073709551616 ≡ pair ((h * 2 ^ k + (l * 2 ^ k) / 4294967296) % 4294967296) ((l * 2 ^ k) % 4294967296)
pair_shl h l k p = omega arith

pub pair_shl_word : (h l k : ℕ) → (pair h l * 2 ^ (32 + k)) % 18446744073709551616 ≡ pair ((l * 2 ^ k) % 4294967296) 0
pair_shl_word h l k = let e : pair h l * 2 ^ (32 + k) ≡ pair h l * 2 ^ k * 4294967296 = ap (λ n. pair h l * n) (pow-add 2 32 k) ∙ times (pair h l) (2 ^ k) in omega (arith, e)

-- to the right, with zeros
pub pair_shr : (h l k j : ℕ) → j + k ≡ 32 → l < 4294967296 → pair h l / 2 ^ k ≡ pair (h / 2 ^ k) (l / 2 ^ k + (h * 2 ^ j) % 4294967296)
pair_shr h l k j e p =
    let s : 2 ^ j * 2 ^ k ≡ 4294967296 = sym (pow-add 2 j k) ∙ ap (λ n. 2 ^ n) e in
    let a : pair h l ≡ l + h * 2 ^ j * 2 ^ k = omega (arith, mul_assoc h (2 ^ j) (2 ^ k), ap (λ n. h * n) s) in
    let e' : k + j ≡ 32 = omega arith in
    let m : (h * 2 ^ j) % 4294967296 ≡ (h % 2 ^ k) * 2 ^ j = ap (λ n. (h * 2 ^ j) % 2 ^ n) (sym e') ∙ kept h j k in
    let t : h * 2 ^ j ≡ h / 2 ^ k * 4294967296 + (h % 2 ^ k) * 2 ^ j = split h k j (2 ^ j * 2 ^ k) refl ∙ ap (λ n. h / 2 ^ k * n + (h % 2 ^ k) * 2 ^ j) s in
    ap (λ n. n / 2 ^ k) a ∙ add-mul-div_right l (h * 2 ^ j) (pow_pos k) ∙ omega (arith, m, t)

pub pair_shr_word : (h l k : ℕ) → l < 4294967296 → pair h l / 2 ^ (32 + k) ≡ h / 2 ^ k
pair_shr_word h l k p = sym (shr-shr (pair h l) 32 k) ∙ ap (λ n. n / 2 ^ k) (omega arith)

-- with copies of the sign: what comes in besides
complement : (n j k x : ℕ) → 2 ^ j * 2 ^ k ≡ n → x < n → (n - 1 - x) / 2 ^ k ≡ 2 ^ j - 1 - x / 2 ^ k
complement n j k x e lt =
    let u : x / 2 ^ k < 2 ^ j = shr_below x j k (subst (λ m. x < m) (sym e ∙ sym (pow-add 2 j k)) lt) in
    let v : x % 2 ^ k < 2 ^ k = mod-lt x (pow_pos k) in
    let d : x / 2 ^ k * 2 ^ k + x % 2 ^ k ≡ x = div-add-mod' x (2 ^ k) in
    let w : (2 ^ j - 1 - x / 2 ^ k) * 2 ^ k + suc (x / 2 ^ k) * 2 ^ k ≡ 2 ^ j * 2 ^ k = parts_of (2 ^ j) (x / 2 ^ k) (2 ^ k) u in
    let s : n - 1 - x ≡ (2 ^ j - 1 - x / 2 ^ k) * 2 ^ k + (2 ^ k - 1 - x % 2 ^ k) = omega (arith, w, e, d, v) in
    ap (λ m. m / 2 ^ k) s ∙ div-mul-add (2 ^ j - 1 - x / 2 ^ k) (2 ^ k) (2 ^ k - 1 - x % 2 ^ k) (omega (arith, v))

abbrev pub sign_bits : ℕ → ℕ → ℕ → ℕ
sign_bits n j i = if nat_le (n / 2) i then n - 2 ^ j else 0

pub shr_s_32 : (i k j : ℕ) → i < 4294967296 → j + k ≡ 32 → cast_unsigned w32 (int_shr (score i) k) ≡ i / 2 ^ k + sign_bits 4294967296 j i
shr_s_32 i k j h e = by_sign (λ i a. cast_unsigned w32 (int_shr a k) ≡ i / 2 ^ k + sign_bits 4294967296 j i)
    (λ m h. sym (ap (λ b. m / 2 ^ k + (if b then 4294967296 - 2 ^ j else 0)) (lt-leb 2147483648 m h) ∙ add-zero (m / 2 ^ k)))
    (λ x h.
    let s : 2 ^ j * 2 ^ k ≡ 4294967296 = sym (pow-add 2 j k) ∙ ap (λ n. 2 ^ n) e in
    let c : (4294967295 - x) / 2 ^ k ≡ 2 ^ j - 1 - x / 2 ^ k = complement 4294967296 j k x s (omega arith) in
    let u : x / 2 ^ k < 2 ^ j = shr_below x j k (subst (λ m. x < m) (sym s ∙ sym (pow-add 2 j k)) (omega arith)) in
    let t : 2 ^ j ≤ 4294967296 = pow_most j 32 (omega arith) in
    sym (ap₂ (λ a b. a + (if b then 4294967296 - 2 ^ j else 0)) c (le-leb 2147483648 (4294967295 - x) (omega arith)) ∙ omega arith))
    i h

pub shr_s_64 : (i k j : ℕ) → i < 18446744073709551616 → j + k ≡ 64 → cast_unsigned w64 (int_shr (cast_signed w64 i) k) ≡ i / 2 ^ k + sign_bits 18446744073709551616 j i
shr_s_64 i k j h e = by_sign_64 (λ i a. cast_unsigned w64 (int_shr a k) ≡ i / 2 ^ k + sign_bits 18446744073709551616 j i)
    (λ m h. sym (ap (λ b. m / 2 ^ k + (if b then 18446744073709551616 - 2 ^ j else 0)) (lt-leb 9223372036854775808 m h) ∙ add-zero (m / 2 ^ k)))
    (λ x h.
    let s : 2 ^ j * 2 ^ k ≡ 18446744073709551616 = sym (pow-add 2 j k) ∙ ap (λ n. 2 ^ n) e in
    let c : (18446744073709551615 - x) / 2 ^ k ≡ 2 ^ j - 1 - x / 2 ^ k = complement 18446744073709551616 j k x s (omega arith) in
    let u : x / 2 ^ k < 2 ^ j = shr_below x j k (subst (λ m. x < m) (sym s ∙ sym (pow-add 2 j k)) (omega arith)) in
    let t : 2 ^ j ≤ 18446744073709551616 = pow_most j 64 (omega arith) in
    sym (ap₂ (λ a b. a + (if b then 18446744073709551616 - 2 ^ j else 0)) c (le-leb 9223372036854775808 (18446744073709551615 - x) (omega arith)) ∙ omega arith))
    i h

-- so the low word is that of the shift with zeros, and the high one that of its own shift
pub pair_shr_s : (h l k j : ℕ) → h < 4294967296 → l < 4294967296 → j + k ≡ 32
    → cast_unsigned w64 (int_shr (cast_signed w64 (pair h l)) k) ≡ pair (cast_unsigned w32 (int_shr (score h) k)) (l / 2 ^ k + (h * 2 ^ j) % 4294967296)
pair_shr_s h l k j p q e =
    let big : 2 ^ (32 + j) ≡ 4294967296 * 2 ^ j = pow-add 2 32 j in
    let e' : 32 + j + k ≡ 64 = omega arith in
    let low : pair h l < 18446744073709551616 = omega arith in
    shr_s_64 (pair h l) k (32 + j) low e'
    ∙ ap (λ n. n + sign_bits 18446744073709551616 (32 + j) (pair h l)) (pair_shr h l k j e q)
    ∙ ⊎_elim
    (λ lt. ap (λ b. pair (h / 2 ^ k) (l / 2 ^ k + (h * 2 ^ j) % 4294967296) + (if b then 18446744073709551616 - 2 ^ (32 + j) else 0)) (lt-leb 9223372036854775808 (pair h l) (omega arith))
    ∙ add-zero (pair (h / 2 ^ k) (l / 2 ^ k + (h * 2 ^ j) % 4294967296))
    ∙ ap (λ n. pair n (l / 2 ^ k + (h * 2 ^ j) % 4294967296)) (sym (shr_s_32 h k j p e ∙ ap (λ b. h / 2 ^ k + (if b then 4294967296 - 2 ^ j else 0)) (lt-leb 2147483648 h lt) ∙ add-zero (h / 2 ^ k))))
    (λ ge.
    let t : 2 ^ j ≤ 4294967296 = pow_most j 32 (omega arith) in
    ap (λ b. pair (h / 2 ^ k) (l / 2 ^ k + (h * 2 ^ j) % 4294967296) + (if b then 18446744073709551616 - 2 ^ (32 + j) else 0)) (le-leb 9223372036854775808 (pair h l) (omega arith))
    ∙ omega (arith, big, t)
    ∙ ap (λ n. pair n (l / 2 ^ k + (h * 2 ^ j) % 4294967296)) (sym (shr_s_32 h k j p e ∙ ap (λ b. h / 2 ^ k + (if b then 4294967296 - 2 ^ j else 0)) (le-leb 2147483648 h ge))))
    (cases_lt h 2147483648)

-- rotations to the left by less than a word; one by a word swaps the words
pub pair_turned : (h l k : ℕ) → h < 4294967296 → l < 4294967296 → k < 32
    → rotated w64 (pair h l) k ≡ pair ((h * 2 ^ k) % 4294967296 + (l * 2 ^ k) / 4294967296) ((l * 2 ^ k) % 4294967296 + (h * 2 ^ k) / 4294967296)
pair_turned h l k p q lt =
    let a : (h * 2 ^ k) % 4294967296 + (l * 2 ^ k) / 4294967296 < 4294967296 = joined h l k p q (omega arith) in
    omega (arith, a)

pub pair_turned_word : (h l k : ℕ) → h < 4294967296 → l < 4294967296 → k < 32 → rotated w64 (pair h l) (32 + k) ≡ rotated w64 (pair l h) k
pair_turned_word h l k p q lt =
    let a : (h * 2 ^ k) % 4294967296 + (l * 2 ^ k) / 4294967296 < 4294967296 = joined h l k p q (omega arith) in
    let b : (l * 2 ^ k) % 4294967296 + (h * 2 ^ k) / 4294967296 < 4294967296 = joined l h k q p (omega arith) in
    let e : pair h l * 2 ^ (32 + k) ≡ pair h l * 2 ^ k * 4294967296 = ap (λ n. pair h l * n) (pow-add 2 32 k) ∙ times (pair h l) (2 ^ k) in
    ap (λ n. n % 18446744073709551616 + n / 18446744073709551616) e ∙ omega (arith, a, b)

-- ---- a shift to the right with copies of the sign, by a word and less than a word more

-- the word of copies of a word's sign
abbrev pub sign_word : ℕ → ℕ
sign_word h = if nat_le 2147483648 h then 4294967295 else 0

pub sign_word_small : (h : ℕ) → sign_word h < 4294967296
sign_word_small h = go (nat_le 2147483648 h)
  where
    go : (b : Bool) → (if b then 4294967295 else 0) < 4294967296
    go true = omega arith
    go false = omega arith

shift_twice : (z : ℤ) (r : ℕ) → int_shr z (32 + r) ≡ int_shr (int_shr z 32) r
shift_twice (pos n) r = ap pos (sym (shr-shr n 32 r))
shift_twice (negsuc n) r = ap negsuc (sym (shr-shr n 32 r))

shift_word : (h l : ℕ) → h < 4294967296 → l < 4294967296 → int_shr (cast_signed w64 (pair h l)) 32 ≡ score h
shift_word h l p q = half_is_shift (cast_signed w64 (pair h l)) ∙ high_of_pair h l p q
  where
    half_is_shift : (z : ℤ) → int_shr z 32 ≡ high_half z
    half_is_shift (pos n) = refl
    half_is_shift (negsuc n) = refl

-- a word with copies of its sign above it
extended : (h : ℕ) → h < 4294967296 → cast_signed w64 (pair (sign_word h) h) ≡ score h
extended = by_sign (λ h z. cast_signed w64 (pair (sign_word h) h) ≡ z)
    (λ m h. ap (λ b. cast_signed w64 (pair (if b then 4294967295 else 0) m)) (lt-leb 2147483648 m h) ∙ ap (cast_signed w64) (omega arith) ∙ low_64 m (omega arith))
    (λ k h.
    ap (λ b. cast_signed w64 (pair (if b then 4294967295 else 0) (4294967295 - k))) (le-leb 2147483648 (4294967295 - k) (omega arith))
    ∙ ap (cast_signed w64) (omega arith) ∙ high_64 k (omega arith))

pub pair_shr_s_word : (h l k : ℕ) → h < 4294967296 → l < 4294967296
    → cast_unsigned w64 (int_shr (cast_signed w64 (pair h l)) (32 + k)) ≡ cast_unsigned w64 (int_shr (cast_signed w64 (pair (sign_word h) h)) k)
pair_shr_s_word h l k p q =
    ap (cast_unsigned w64) (shift_twice (cast_signed w64 (pair h l)) k ∙ ap (λ z. int_shr z k) (shift_word h l p q ∙ sym (extended h p)))
