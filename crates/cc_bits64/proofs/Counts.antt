-- Counts of pairs of words by those of the words.
use Rattle.std.proofs.Common.{◌≡◌, ℕ, zero, suc, ◌+◌, ◌*◌, ◌/◌, ◌%◌, ◌^◌, ◌<◌, ◌≤◌, arith, refl, sym, ap, ap₂, ◌∙◌, pow-suc, mul_assoc}
use Rattle.std.proofs.lemmas.Nat.{pow-add}
use Rattle.std.specs.Int.{w32, w64}
use lib.Count.{count_leading_zeros, count_trailing_zeros, ones_cat, leading_top, leading_length, leading_unique, under}
use Rattle.wm_ast.specs.Integer.{iclz, ictz, ipopcnt}
use Rattle.cc_bits64.proofs.Pairs.{pair}

pub pair_popcnt : (h l : ℕ) → l < 4294967296 → ipopcnt w64 (pair h l) ≡ ipopcnt w32 h + ipopcnt w32 l
pair_popcnt h l q = ones_cat 32 h l q

-- the high word tells it, or, where it is 0, the low one
pub pair_clz_high : (h l : ℕ) → 0 < h → h < 4294967296 → l < 4294967296 → iclz w64 (pair h l) ≡ iclz w32 h
pair_clz_high h l p hh hl =
    let t : (j : ℕ) × (count_leading_zeros 32 h + suc j ≡ 32) × (2 ^ j ≤ h) × (h < 2 ^ suc j) = leading_top 32 h p hh in
    let e : 2 ^ (suc t.0 + 32) ≡ 2 ^ suc t.0 * 4294967296 = pow-add 2 (suc t.0) 32 in
    let d : 2 ^ suc t.0 ≡ 2 ^ t.0 * 2 = pow-suc 2 t.0 in
    sym (leading_unique 64 (pair h l) (count_leading_zeros 32 h) (suc t.0 + 32) (omega (arith, t.1)) (omega (arith, e, t.3)) (omega (arith, e, d, t.2)))

pub pair_clz_low : (l : ℕ) → l < 4294967296 → iclz w64 (pair 0 l) ≡ 32 + iclz w32 l
pair_clz_low l hl =
    let t : (m : ℕ) × (count_leading_zeros 32 l + m ≡ 32) × (l < 2 ^ m) × (2 ^ m ≤ 2 * l + 1) = leading_length 32 l hl in
    sym (leading_unique 64 (pair 0 l) (32 + count_leading_zeros 32 l) t.0 (omega (arith, t.1)) (omega (arith, t.2)) (omega (arith, t.3)))

-- the low word tells it, or, where it is 0, the high one
-- where the lowest digit is set, there is none; else the rest tells
by_digit : (a b h x d : ℕ) → (d ≡ 0 → count_trailing_zeros (a + b) (h * 2 ^ a + x) ≡ count_trailing_zeros a x) → under d (count_trailing_zeros (a + b) (h * 2 ^ a + x)) ≡ under d (count_trailing_zeros a x)
by_digit a b h x zero f = ap suc (f refl)
by_digit a b h x (suc d) f = refl

trailing_low : (a b h l : ℕ) → 0 < l → l < 2 ^ a → count_trailing_zeros (a + b) (h * 2 ^ a + l) ≡ count_trailing_zeros a l
unfolding count_trailing_zeros
trailing_low zero b h l p q = absurd (omega arith)
trailing_low (suc a) b h l p q =
    let s : h * 2 ^ suc a ≡ h * 2 ^ a * 2 = ap (λ n. h * n) (pow-suc 2 a) ∙ sym (mul_assoc h (2 ^ a) 2) in
    let low : (h * 2 ^ suc a + l) % 2 ≡ l % 2 = omega (arith, s) in
    let high : (h * 2 ^ suc a + l) / 2 ≡ h * 2 ^ a + l / 2 = omega (arith, s) in
    let n : suc a + b ≡ suc (a + b) = omega arith in
    ap (λ k. count_trailing_zeros k (h * 2 ^ suc a + l)) n
    ∙ ap₂ (λ d x. under d (count_trailing_zeros (a + b) x)) low high
    ∙ by_digit a b h (l / 2) (l % 2) (λ z. trailing_low a b h (l / 2) (omega (arith, z)) (omega (arith, pow-suc 2 a)))

pub pair_ctz_low : (h l : ℕ) → 0 < l → l < 4294967296 → ictz w64 (pair h l) ≡ ictz w32 l
pair_ctz_low h l p q = trailing_low 32 32 h l p q

trailing_high : (a b h : ℕ) → count_trailing_zeros (a + b) (h * 2 ^ a) ≡ a + count_trailing_zeros b h
unfolding count_trailing_zeros
trailing_high zero b h = let n : zero + b ≡ b = omega arith in let m : h * 2 ^ 0 ≡ h = omega arith in let z : count_trailing_zeros b h ≡ 0 + count_trailing_zeros b h = omega arith in ap₂ count_trailing_zeros n m ∙ z
trailing_high (suc a) b h =
    let s : h * 2 ^ suc a ≡ h * 2 ^ a * 2 = ap (λ n. h * n) (pow-suc 2 a) ∙ sym (mul_assoc h (2 ^ a) 2) in
    let low : (h * 2 ^ suc a) % 2 ≡ 0 = omega (arith, s) in
    let high : (h * 2 ^ suc a) / 2 ≡ h * 2 ^ a = omega (arith, s) in
    let n : suc a + b ≡ suc (a + b) = omega arith in
    let m : suc (a + count_trailing_zeros b h) ≡ suc a + count_trailing_zeros b h = omega arith in
    ap (λ k. count_trailing_zeros k (h * 2 ^ suc a)) n
    ∙ ap₂ (λ d x. under d (count_trailing_zeros (a + b) x)) low high
    ∙ ap suc (trailing_high a b h) ∙ m

pub pair_ctz_high : (h : ℕ) → ictz w64 (pair h 0) ≡ 32 + ictz w32 h
pair_ctz_high h = let e : pair h 0 ≡ h * 4294967296 = omega arith in ap (count_trailing_zeros 64) e ∙ trailing_high 32 32 h
