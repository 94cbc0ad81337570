-- Sums and differences of numbers of 64 bits by their words: a carry and a borrow are told by the low ones.
use Rattle.std.proofs.Common.{◌≡◌, ℕ, ◌+◌, ◌*◌, ◌/◌, ◌%◌, ◌<◌, ℤ, pos, ◌+ℤ◌, ◌-ℤ◌, Bool, nat_lt, int_lt, arith, ap, ap₂, ◌∙◌, ⊎_elim, if◌then◌else◌}
use Rattle.std.proofs.lemmas.Bool.{cases_lt, lt-ltb, le-ltb}
use Rattle.std.specs.Int.{w64}
use Rattle.mc_cmd.specs.World.{wrapped}
use Rattle.wm_ast.specs.Integer.{iadd, isub}
use Rattle.cc_line.proofs.Words.{score, sum_of, difference_of, flipped, flipped_lt}

abbrev pub pair : ℕ → ℕ → ℕ
pair h l = h * 4294967296 + l

pub pair_of : (n : ℕ) → n ≡ pair (n / 4294967296) (n % 4294967296)
pair_of n = omega arith

-- one more, one less
abbrev pub one_more_if : Bool → ℤ → ℤ
one_more_if b h = if b then wrapped (h +ℤ pos 1) else h

abbrev pub one_less_if : Bool → ℤ → ℤ
one_less_if b h = if b then wrapped (h -ℤ pos 1) else h

plus_one : (m : ℕ) → m < 4294967296 → wrapped (score m +ℤ pos 1) ≡ score ((m + 1) % 4294967296)
plus_one m h = sum_of m 1 h (omega arith)

minus_one : (m : ℕ) → m < 4294967296 → wrapped (score m -ℤ pos 1) ≡ score ((m + 4294967295) % 4294967296)
minus_one m h = difference_of m 1 h (omega arith)

-- whether a sum of words is below one of them
carries : (m n : ℕ) → m < 4294967296 → n < 4294967296 → int_lt (flipped (score ((m + n) % 4294967296))) (flipped (score n)) ≡ nat_lt ((m + n) % 4294967296) n
carries m n p q = flipped_lt ((m + n) % 4294967296) n (omega arith) q

carry_to : (w m n : ℕ) → w < 4294967296 → m < 4294967296 → n < 4294967296 → one_more_if (nat_lt ((m + n) % 4294967296) n) (score w) ≡ score ((w + (m + n) / 4294967296) % 4294967296)
carry_to w m n h p q =
    ⊎_elim (λ l. ap (λ b. one_more_if b (score w)) (le-ltb ((m + n) % 4294967296) n (omega arith)) ∙ ap score (omega arith))
    (λ g. ap (λ b. one_more_if b (score w)) (lt-ltb ((m + n) % 4294967296) n (omega arith)) ∙ plus_one w h ∙ ap score (omega arith))
    (cases_lt (m + n) 4294967296)

-- what the lines make of the low words, and of the high ones
abbrev pub sum_low : ℤ → ℤ → ℤ
sum_low al bl = wrapped (al +ℤ bl)

abbrev pub sum_high : ℤ → ℤ → ℤ → ℤ → ℤ
sum_high al ah bl bh = one_more_if (int_lt (flipped (wrapped (al +ℤ bl))) (flipped bl)) (wrapped (ah +ℤ bh))

sum_high_is : (ah al bh bl : ℕ) → ah < 4294967296 → al < 4294967296 → bh < 4294967296 → bl < 4294967296
    → sum_high (score al) (score ah) (score bl) (score bh) ≡ score ((ah + bh + (al + bl) / 4294967296) % 4294967296)
sum_high_is ah al bh bl p q r s =
    ap₂ (λ x y. one_more_if (int_lt (flipped x) (flipped (score bl))) y) (sum_of al bl q s) (sum_of ah bh p r)
    ∙ ap (λ b. one_more_if b (score ((ah + bh) % 4294967296))) (carries al bl q s)
    ∙ carry_to ((ah + bh) % 4294967296) al bl (omega arith) q s
    ∙ ap score (omega arith)

pub sum_is : (ah al bh bl : ℕ) → ah < 4294967296 → al < 4294967296 → bh < 4294967296 → bl < 4294967296
    → (sum_low (score al) (score bl) ≡ score (iadd w64 (pair ah al) (pair bh bl) % 4294967296))
    × (sum_high (score al) (score ah) (score bl) (score bh) ≡ score (iadd w64 (pair ah al) (pair bh bl) / 4294967296))
sum_is ah al bh bl p q r s = (
  sum_of al bl q s ∙ ap score (omega arith),
  sum_high_is ah al bh bl p q r s ∙ ap score (omega arith),
)

abbrev pub difference_low : ℤ → ℤ → ℤ
difference_low al bl = wrapped (al -ℤ bl)

abbrev pub difference_high : ℤ → ℤ → ℤ → ℤ → ℤ
difference_high al ah bl bh = wrapped (one_less_if (int_lt (flipped al) (flipped bl)) ah -ℤ bh)

difference_high_is : (ah al bh bl : ℕ) → ah < 4294967296 → al < 4294967296 → bh < 4294967296 → bl < 4294967296
    → difference_high (score al) (score ah) (score bl) (score bh) ≡ score (isub w64 (pair ah al) (pair bh bl) / 4294967296)
difference_high_is ah al bh bl p q r s =
    ap (λ b. wrapped (one_less_if b (score ah) -ℤ score bh)) (flipped_lt al bl q s)
    ∙ ⊎_elim
    (λ l.
    ap (λ b. wrapped (one_less_if b (score ah) -ℤ score bh)) (lt-ltb al bl l)
    ∙ ap (λ z. wrapped (z -ℤ score bh)) (minus_one ah p)
    ∙ difference_of ((ah + 4294967295) % 4294967296) bh (omega arith) r
    ∙ ap score (omega arith))
    (λ g. ap (λ b. wrapped (one_less_if b (score ah) -ℤ score bh)) (le-ltb al bl g) ∙ difference_of ah bh p r ∙ ap score (omega arith))
    (cases_lt al bl)

pub difference_is : (ah al bh bl : ℕ) → ah < 4294967296 → al < 4294967296 → bh < 4294967296 → bl < 4294967296
    → (difference_low (score al) (score bl) ≡ score (isub w64 (pair ah al) (pair bh bl) % 4294967296))
    × (difference_high (score al) (score ah) (score bl) (score bh) ≡ score (isub w64 (pair ah al) (pair bh bl) / 4294967296))
difference_is ah al bh bl p q r s = (
  difference_of al bl q s ∙ ap score (omega arith),
  difference_high_is ah al bh bl p q r s,
)
