-- Division by small numbers, digit by digit to the base 65,536.
use Rattle.std.proofs.Common.{◌≡◌, ℕ, suc, ◌+◌, ◌*◌, ◌/◌, ◌%◌, ◌<◌, ℤ, pos, ◌+ℤ◌, ◌-ℤ◌, ◌*ℤ◌, arith, sym, ap, ap₂, ◌∙◌, div-add-mod', mod-lt, div-le_self, zero-lt-suc}
use Rattle.std.proofs.lemmas.Int.{ints}
use Rattle.std.proofs.lemmas.Nat.{div-mul-add, mod-mul-add, mul-add-lt}
use Rattle.std.proofs.Math.Nat.{div-lt_iff_lt-mul}
use Rattle.mc_cmd.specs.World.{wrapped, floor_by}
use Rattle.cc_line.proofs.Words.{score, by_sign, low_score, unwrapped_pos, unwrapped_neg, sum_of, product_of}

-- one digit more, to any base
pub next_digit : (b n d v : ℕ) → 0 < v → ((n * b + d) / v ≡ n / v * b + (n % v * b + d) / v) × ((n * b + d) % v ≡ (n % v * b + d) % v)
next_digit b n d v p =
    let s : (n % v * b + d) / v * v + (n % v * b + d) % v ≡ n % v * b + d = div-add-mod' (n % v * b + d) v in
    let e : n * b + d ≡ (n / v * b + (n % v * b + d) / v) * v + (n % v * b + d) % v = omega (arith, s, ap (λ x. x * b) (div-add-mod' n v)) in
    let l : (n % v * b + d) % v < v = mod-lt (n % v * b + d) p in (
      ap (λ x. x / v) e ∙ div-mul-add (n / v * b + (n % v * b + d) / v) v ((n % v * b + d) % v) l,
      ap (λ x. x % v) e ∙ mod-mul-add (n / v * b + (n % v * b + d) / v) v ((n % v * b + d) % v) l,
    )

-- what one digit more adds to the quotient is a digit
pub digit_quotient : (b r d v : ℕ) → 0 < v → r < v → d < b → (r * b + d) / v < b
digit_quotient b r d v p q h = (div-lt_iff_lt-mul {k = v} {x = r * b + d} {y = b} p).1 (mul-add-lt r b d v q h)

-- ---- by scores: the quotient and the rest by w + 1

abbrev pub rest_of : ℤ → ℕ → ℤ
rest_of a w = a -ℤ (pos (suc w) *ℤ floor_by a (suc w))

abbrev pub quotient_of : ℤ → ℕ → ℤ
quotient_of a w = wrapped (floor_by a (suc w))

rest_pos : (x w : ℕ) → rest_of (pos x) w ≡ pos (x % suc w)
rest_pos x w = omega (arith, ints, div-add-mod' x (suc w))

quotient_pos : (x w : ℕ) → x < 2147483648 → quotient_of (pos x) w ≡ pos (x / suc w)
quotient_pos x w h = unwrapped_pos (x / suc w) (omega (arith, div-le_self x (suc w)))

-- the two digits of a word
lower_is : (x : ℕ) → x < 4294967296 → rest_of (score x) 65535 ≡ pos (x % 65536)
lower_is = by_sign (λ x a. rest_of a 65535 ≡ pos (x % 65536))
    (λ m h. omega (arith, ints))
    (λ k h. omega (arith, ints))

abbrev pub upper_of : ℤ → ℤ
upper_of a = rest_of (quotient_of a 65535) 65535

pub upper_is : (x : ℕ) → x < 4294967296 → upper_of (score x) ≡ pos (x / 65536)
upper_is = by_sign (λ x a. upper_of a ≡ pos (x / 65536))
    (λ m h. ap (λ a. rest_of a 65535) (unwrapped_pos (m / 65536) (omega arith)) ∙ omega (arith, ints))
    (λ k h. ap (λ a. rest_of a 65535) (unwrapped_neg (k / 65536) (omega arith)) ∙ omega (arith, ints))

-- ---- both digits of a word x behind the upper ones' number c

abbrev pub behind : ℤ → ℤ → ℕ → ℤ
behind c x w = wrapped (rest_of x 65535 +ℤ wrapped (rest_of c w *ℤ pos 65536))

abbrev pub word_rest : ℤ → ℤ → ℕ → ℤ
word_rest c x w = rest_of (behind c x w) w

abbrev pub word_quotient : ℤ → ℤ → ℕ → ℤ
word_quotient c x w = wrapped (quotient_of (behind c x w) w +ℤ wrapped (quotient_of c w *ℤ pos 65536))

-- a small number times the base
pub based : (r : ℕ) → r < 32768 → wrapped (pos r *ℤ pos 65536) ≡ pos (r * 65536)
based r h = unwrapped_pos (r * 65536) (omega arith)

pub added : (x y : ℕ) → x + y < 2147483648 → wrapped (pos x +ℤ pos y) ≡ pos (x + y)
added x y h = unwrapped_pos (x + y) h

module _ (c x w : ℕ) (hc : c < 2147483648) (hx : x < 4294967296) (hw : w < 32767) (hq : c / suc w < 65536) where
  abbrev m : ℕ
  m = c % suc w * 65536 + x % 65536

  rest_small : c % suc w < suc w
  rest_small = mod-lt c (zero-lt-suc w)

  m_small : m < 2147483648
  m_small = omega (arith, rest_small)

  behind_is : behind (pos c) (score x) w ≡ pos m
  behind_is =
      ap₂ (λ a b. wrapped (a +ℤ b)) (lower_is x hx) (ap (λ a. wrapped (a *ℤ pos 65536)) (rest_pos c w) ∙ based (c % suc w) (omega (arith, rest_small)))
      ∙ added (x % 65536) (c % suc w * 65536) (omega (arith, rest_small))
      ∙ ap pos (omega arith)

  pub word_rest_is : word_rest (pos c) (score x) w ≡ pos ((c * 65536 + x % 65536) % suc w)
  word_rest_is = ap (λ a. rest_of a w) behind_is ∙ rest_pos m w ∙ ap pos (sym (next_digit 65536 c (x % 65536) (suc w) (zero-lt-suc w)).1)

  digit_small : m / suc w < 65536
  digit_small = digit_quotient 65536 (c % suc w) (x % 65536) (suc w) (zero-lt-suc w) rest_small (omega arith)

  upper_product : wrapped (quotient_of (pos c) w *ℤ pos 65536) ≡ score (c / suc w * 65536)
  upper_product =
      ap₂ (λ a b. wrapped (a *ℤ b)) (quotient_pos c w hc ∙ sym (low_score (c / suc w) (omega (arith, hq)))) (sym (low_score 65536 (omega arith)))
      ∙ product_of (c / suc w) 65536 (omega (arith, hq)) (omega arith)
      ∙ (let e : (c / suc w * 65536) % 4294967296 ≡ c / suc w * 65536 = omega (arith, hq) in ap score e)

  pub word_quotient_is : word_quotient (pos c) (score x) w ≡ score ((c * 65536 + x % 65536) / suc w)
  word_quotient_is =
      ap₂ (λ a b. wrapped (a +ℤ b)) (ap (λ a. quotient_of a w) behind_is ∙ quotient_pos m w m_small ∙ sym (low_score (m / suc w) (omega (arith, digit_small)))) upper_product
      ∙ sum_of (m / suc w) (c / suc w * 65536) (omega (arith, digit_small)) (omega (arith, hq))
      ∙ (let e : (m / suc w + c / suc w * 65536) % 4294967296 ≡ (c * 65536 + x % 65536) / suc w = omega (arith, digit_small, hq, (next_digit 65536 c (x % 65536) (suc w) (zero-lt-suc w)).0) in ap score e)
