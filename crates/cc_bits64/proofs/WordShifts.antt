-- What lines of shifts make of words, by factors and divisors that are powers of two.
use Rattle.std.proofs.Common.{◌≡◌, ℕ, zero, suc, ◌+◌, ◌-◌, ◌*◌, ◌/◌, ◌%◌, ◌^◌, ◌<◌, ℤ, pos, negsuc, ◌+ℤ◌, ◌*ℤ◌, true, unwrap_or, sym, ap, ap₂, ◌∙◌, arith, if◌then◌else◌, mod-lt, mod-eq_of_lt, div-le_self, div-one}
use Rattle.std.proofs.lemmas.Nat.{pow-add, pow_below}
use Rattle.std.specs.Int.{w32, cast_unsigned, int_shr}
use Rattle.mc_cmd.specs.Command.{from}
use Rattle.mc_cmd.specs.World.{wrapped, is_in, quotient, floor_by}
use Rattle.wm_ast.proofs.IntegerLaws.{fallen}
use Rattle.cc_line.specs.Table.{power}
use Rattle.cc_line.proofs.Words.{score, low_score, sum_of, product_of, unwrapped, unwrapped_pos, fits_score}
use Rattle.cc_bits.proofs.ShiftFacts.{half_of, half_is, comes_in, shr_u_by_half, shr_s_is, shr_s_by}
use Rattle.cc_bits.proofs.ShiftLemmas.{power_is, by_power}
use Rattle.cc_bits64.proofs.PairShifts.{joined}

-- ---- powers, and quotients by them

abbrev pub over : ℤ → ℤ → ℤ
over a q = unwrap_or (quotient a q) a

-- what stays, by the factor
pub stays : (m k : ℕ) → m < 4294967296 → k < 32 → wrapped (score m *ℤ score (power k)) ≡ score ((m * 2 ^ k) % 4294967296)
stays m k h l = ap (λ p. wrapped (score m *ℤ score p)) (power_is k l) ∙ product_of m (2 ^ k) h (pow_below k 32 l)

-- ---- to the left

-- a word, by the factor p, and what falls out of the word below it, by the divisor q
abbrev pub left_line : ℤ → ℤ → ℤ → ℤ → ℤ → ℤ
left_line b a p q k = if is_in (from (pos 1)) k then wrapped (wrapped (b *ℤ p) +ℤ over (half_of a) q) else wrapped (b *ℤ p)

some_is : (j : ℕ) → is_in (from (pos 1)) (pos (suc j)) ≡ true
some_is j = grind arith

falls_out : (l r k : ℕ) → l < 4294967296 → 0 < r → k + r ≡ 31 → over (half_of (score l)) (score (power k)) ≡ score ((l * 2 ^ r) / 4294967296)
falls_out l r k h p e =
    let small : l / 2 / 2 ^ k < 2147483648 = omega (arith, div-le_self (l / 2) (2 ^ k)) in
    ap (λ x. over x (score (power k))) (half_is l h) ∙ by_power (pos (l / 2)) k (omega arith) ∙ unwrapped_pos (l / 2 / 2 ^ k) small
    ∙ sym (low_score (l / 2 / 2 ^ k) small) ∙ ap score (comes_in l r k e)

pub left_line_is : (h l r : ℕ) → h < 4294967296 → l < 4294967296 → r < 32 → left_line (score h) (score l) (score (power r)) (score (power (31 - r))) (pos r) ≡ score ((h * 2 ^ r + (l * 2 ^ r) / 4294967296) % 4294967296)
left_line_is h l zero p q lt = stays h 0 p lt ∙ ap score (omega arith)
left_line_is h l (suc j) p q lt =
    let e : 31 - suc j + suc j ≡ 31 = omega arith in
    let c : l / 2 / 2 ^ (31 - suc j) ≡ (l * 2 ^ suc j) / 4294967296 = comes_in l (suc j) (31 - suc j) e in
    let small : (l * 2 ^ suc j) / 4294967296 < 4294967296 = omega (arith, c, div-le_self (l / 2) (2 ^ (31 - suc j))) in
    let low : (h * 2 ^ suc j) % 4294967296 < 4294967296 = mod-lt (h * 2 ^ suc j) (omega arith) in
    ap (λ b. if b then wrapped (wrapped (score h *ℤ score (power (suc j))) +ℤ over (half_of (score l)) (score (power (31 - suc j)))) else wrapped (score h *ℤ score (power (suc j)))) (some_is j)
    ∙ ap₂ (λ x y. wrapped (x +ℤ y)) (stays h (suc j) p lt) (falls_out l (suc j) (31 - suc j) q (omega arith) e)
    ∙ sum_of ((h * 2 ^ suc j) % 4294967296) ((l * 2 ^ suc j) / 4294967296) low small
    ∙ ap score (omega arith)

-- the parts of a rotation are no more than a word together
pub turn_line_is : (h l r : ℕ) → h < 4294967296 → l < 4294967296 → r < 32 → left_line (score h) (score l) (score (power r)) (score (power (31 - r))) (pos r) ≡ score ((h * 2 ^ r) % 4294967296 + (l * 2 ^ r) / 4294967296)
turn_line_is h l r p q lt =
    let small : (h * 2 ^ r) % 4294967296 + (l * 2 ^ r) / 4294967296 < 4294967296 = joined h l r p q (omega arith) in
    left_line_is h l r p q lt ∙ ap score (omega (arith, small))

-- ---- to the right

-- a rotation to the left by the rest of a word
abbrev pub rest : ℕ → ℕ
rest r = (32 - r) % 32

pub right_small : (h l r : ℕ) → h < 4294967296 → l < 4294967296 → r < 32 → l / 2 ^ r + (h * 2 ^ (32 - r)) % 4294967296 < 4294967296
right_small h l r p q lt =
    let e : 32 - r + r ≡ 32 = omega arith in
    let small : (h * 2 ^ (32 - r)) % 4294967296 + (l * 2 ^ (32 - r)) / 4294967296 < 4294967296 = joined h l (32 - r) p q (omega arith) in
    let f : (l * 2 ^ (32 - r)) / 4294967296 ≡ l / 2 ^ r = ap (λ n. (l * 2 ^ (32 - r)) / 2 ^ n) (sym e) ∙ fallen l (32 - r) r in
    omega (arith, small, f)

-- a word by the divisor
goes_down : (l j : ℕ) → l < 4294967296 → suc j < 32 → over (half_of (score l)) (score (power (31 - rest (suc j)))) ≡ score (l / 2 ^ suc j)
goes_down l j h lt =
    let e : 31 - (32 - suc j) % 32 ≡ j = omega arith in
    ap (λ i. over (half_of (score l)) (score (power i))) e ∙ ap (λ x. over x (score (power j))) (half_is l h) ∙ by_power (pos (l / 2)) j (omega arith) ∙ shr_u_by_half l j h

abbrev pub right_line : ℤ → ℤ → ℤ → ℤ → ℤ → ℤ
right_line a b p q k = if is_in (from (pos 1)) k then wrapped (over (half_of a) q +ℤ wrapped (b *ℤ p)) else a

pub right_line_is : (h l r : ℕ) → h < 4294967296 → l < 4294967296 → r < 32
    → right_line (score l) (score h) (score (power (rest r))) (score (power (31 - rest r))) (pos r) ≡ score (l / 2 ^ r + (h * 2 ^ (32 - r)) % 4294967296)
right_line_is h l zero p q lt = ap score (omega arith)
right_line_is h l (suc j) p q lt =
    let e : (32 - suc j) % 32 ≡ 32 - suc j = omega arith in
    let small : l / 2 ^ suc j + (h * 2 ^ (32 - suc j)) % 4294967296 < 4294967296 = right_small h l (suc j) p q lt in
    let factor : wrapped (score h *ℤ score (power (rest (suc j)))) ≡ score ((h * 2 ^ (32 - suc j)) % 4294967296) =
    stays h ((32 - suc j) % 32) p (mod-lt (32 - suc j) (omega arith)) ∙ ap (λ i. score ((h * 2 ^ i) % 4294967296)) e
    in
    ap (λ b. if b then wrapped (over (half_of (score l)) (score (power (31 - rest (suc j)))) +ℤ wrapped (score h *ℤ score (power (rest (suc j))))) else score l) (some_is j)
    ∙ ap₂ (λ x y. wrapped (x +ℤ y)) (goes_down l j q lt) factor
    ∙ sum_of (l / 2 ^ suc j) ((h * 2 ^ (32 - suc j)) % 4294967296) (omega (arith, small)) (omega (arith, small))
    ∙ ap score (mod-eq_of_lt small)

-- the high half: by the divisor, or for 0 by the factor, which is 1
abbrev pub high_line : ℤ → ℤ → ℤ → ℤ → ℤ
high_line b p d k = if is_in (from (pos 1)) k then d else wrapped (b *ℤ p)

pub high_line_is : (h r : ℕ) → h < 4294967296 → r < 32 → high_line (score h) (score (power (rest r))) (over (half_of (score h)) (score (power (31 - rest r)))) (pos r) ≡ score (h / 2 ^ r)
high_line_is h zero p lt = stays h 0 p lt ∙ ap score (omega arith)
high_line_is h (suc j) p lt =
    ap (λ b. if b then over (half_of (score h)) (score (power (31 - rest (suc j)))) else wrapped (score h *ℤ score (power (rest (suc j))))) (some_is j) ∙ goes_down h j p lt

none_down : (z : ℤ) → floor_by z 1 ≡ z
none_down (pos n) = ap pos (div-one n)
none_down (negsuc n) = ap negsuc (div-one n)

pub signed_line_is : (h r : ℕ) → h < 4294967296 → r < 32
    → high_line (score h) (score (power (rest r))) (over (wrapped (floor_by (score h) 2)) (score (power (31 - rest r)))) (pos r) ≡ score (cast_unsigned w32 (int_shr (score h) r))
signed_line_is h zero p lt =
    let e : (h * 2 ^ 0) % 4294967296 ≡ h = omega arith in
    stays h 0 p lt ∙ ap score e ∙ sym (ap wrapped (none_down (score h)) ∙ unwrapped (score h) (fits_score h p)) ∙ shr_s_by h 0 p
signed_line_is h (suc j) p lt =
    let e : 31 - (32 - suc j) % 32 ≡ j = omega arith in
    let m : suc j % 32 ≡ suc j = mod-eq_of_lt lt in
    let d : 2 ^ 1 * 2 ^ j ≡ 2 ^ (suc j % 32) = sym (pow-add 2 1 j) ∙ ap (λ i. 2 ^ i) (let o : 1 + j ≡ suc j % 32 = omega arith in o) in
    ap (λ b. if b then over (wrapped (floor_by (score h) 2)) (score (power (31 - rest (suc j)))) else wrapped (score h *ℤ score (power (rest (suc j))))) (some_is j)
    ∙ ap (λ i. over (wrapped (floor_by (score h) 2)) (score (power i))) e
    ∙ by_power (wrapped (floor_by (score h) 2)) j (omega arith)
    ∙ shr_s_is h (suc j) 1 (2 ^ j) p d
    ∙ ap (λ i. score (cast_unsigned w32 (int_shr (score h) i))) m
