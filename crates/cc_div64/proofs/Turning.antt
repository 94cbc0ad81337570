-- One turn of the division of numbers below 2^64, and its invariant.
use Rattle.std.proofs.Common.{◌≡◌, ℕ, zero, suc, ◌+◌, ◌-◌, ◌*◌, ◌/◌, ◌%◌, ◌^◌, ◌<◌, ◌≤◌, Bool, nat_le, arith, refl, sym, ap, ◌∙◌, subst, ⊎_elim, if◌then◌else◌, pow-suc, mod-lt, mul_assoc, mul_comm, div-one, subst₂}
use native.Mathlib.Nat.{mod-one}
use Rattle.std.proofs.lemmas.Bool.{cases_lt, lt-leb, le-leb}
use Rattle.cc_div64.specs.Turn.{Turn, After}
use Rattle.std.proofs.lemmas.Nat.{pow-add, pow_pos, shr-shr, mod-pow-add, mul-add-lt, div-mul-add, mod-mul-add}

-- both doubled as one number of 128 bits; where the divisor can be taken, it is, and the quotient's bit is set
abbrev pub turned : ℕ → Turn → Turn
turned v t =
    let r : ℕ = 2 * t.remainder + t.dividend / 9223372036854775808 in
    let d : ℕ = 2 * (t.dividend % 9223372036854775808) in
    if nat_le v r then record { dividend = d + 1; remainder = r - v } else record { dividend = d; remainder = r }

-- the next bit of the number, and what is left of it then
next_top : (n j : ℕ) → n / 2 ^ j ≡ 2 * (n / 2 ^ suc j) + n / 2 ^ j % 2
next_top n j =
    let e : n / 2 ^ j / 2 ≡ n / 2 ^ suc j = shr-shr n j 1 ∙ ap (λ k. n / 2 ^ k) (omega arith) in
    omega (arith, e)

next_rest : (n j : ℕ) → n % 2 ^ suc j ≡ (n / 2 ^ j % 2) * 2 ^ j + n % 2 ^ j
next_rest n j = ap (λ k. n % 2 ^ k) (omega arith) ∙ mod-pow-add n 1 j

pow_63 : (j s : ℕ) → suc j + s ≡ 64 → 2 ^ s * 2 ^ j ≡ 9223372036854775808
pow_63 j s e = let p : s + j ≡ 63 = omega arith in sym (pow-add 2 s j) ∙ ap (λ k. 2 ^ k) p

low_bits : (n j s q : ℕ) → suc j + s ≡ 64 → q < 2 ^ s → (n % 2 ^ j) * 2 ^ s + q < 9223372036854775808
low_bits n j s q e small =
    subst (λ m. (n % 2 ^ j) * 2 ^ s + q < m) (pow_63 j s e) (mul-add-lt (n % 2 ^ j) (2 ^ s) q (2 ^ j) (mod-lt n (pow_pos j)) small)

-- the dividend's top bit is that bit
dividend_is : (n j s q b : ℕ) → suc j + s ≡ 64 → b ≡ n / 2 ^ j % 2 → (n % 2 ^ suc j) * 2 ^ s + q ≡ b * 9223372036854775808 + ((n % 2 ^ j) * 2 ^ s + q)
dividend_is n j s q b e is =
    ap (λ x. x * 2 ^ s + q) (next_rest n j ∙ ap (λ c. c * 2 ^ j + n % 2 ^ j) (sym is))
    ∙ (let p : b * 2 ^ j * 2 ^ s ≡ b * 9223372036854775808 = mul_assoc b (2 ^ j) (2 ^ s) ∙ ap (λ m. b * m) (mul_comm (2 ^ j) (2 ^ s) ∙ pow_63 j s e) in
    omega (arith, p))

module _ (n v j s : ℕ) (t : Turn) (sum : suc j + s ≡ 64) (a : After n v (suc j) s t) where
  abbrev low : ℕ
  low = (n % 2 ^ j) * 2 ^ s + a.quotient

  parts : (t.dividend / 9223372036854775808 ≡ n / 2 ^ j % 2) × (t.dividend % 9223372036854775808 ≡ low)
  parts =
      let l : low < 9223372036854775808 = low_bits n j s a.quotient sum a.small in
      let d : t.dividend ≡ (n / 2 ^ j % 2) * 9223372036854775808 + low = a.rest ∙ dividend_is n j s a.quotient (n / 2 ^ j % 2) sum refl in
      (omega (arith, l, d), omega (arith, l, d))

  doubled : 2 * low ≡ (n % 2 ^ j) * 2 ^ suc s + 2 * a.quotient
  doubled = omega (arith, ap (λ m. (n % 2 ^ j) * m) (pow-suc 2 s))

  small_next : 2 * a.quotient + 1 < 2 ^ suc s
  small_next = let e : 2 ^ suc s ≡ 2 ^ s * 2 = pow-suc 2 s in omega (arith, e, a.small)

  taken : v ≤ 2 * t.remainder + t.dividend / 9223372036854775808 → After n v j (suc s) (record { dividend = 2 * (t.dividend % 9223372036854775808) + 1; remainder = 2 * t.remainder + t.dividend / 9223372036854775808 - v })
  taken le = record {
    quotient = 2 * a.quotient + 1;
    below = omega (arith, a.below, parts);
    top = next_top n j ∙ omega (arith, a.top, parts, le);
    small = small_next;
    rest = omega (arith, doubled, parts);
  }

  kept : 2 * t.remainder + t.dividend / 9223372036854775808 < v → After n v j (suc s) (record { dividend = 2 * (t.dividend % 9223372036854775808); remainder = 2 * t.remainder + t.dividend / 9223372036854775808 })
  kept lt = record {
    quotient = 2 * a.quotient;
    below = lt;
    top = next_top n j ∙ omega (arith, a.top, parts);
    small = omega (arith, small_next);
    rest = omega (arith, doubled, parts);
  }

  abbrev choose : Bool → Turn
  choose b =
      if b then record { dividend = 2 * (t.dividend % 9223372036854775808) + 1; remainder = 2 * t.remainder + t.dividend / 9223372036854775808 - v }
      else record { dividend = 2 * (t.dividend % 9223372036854775808); remainder = 2 * t.remainder + t.dividend / 9223372036854775808 }

  -- a turn keeps it
  pub turned_after : After n v j (suc s) (turned v t)
  turned_after =
      ⊎_elim (λ l. subst (After n v j (suc s)) (ap choose (sym (lt-leb v (2 * t.remainder + t.dividend / 9223372036854775808) l))) (kept l))
      (λ g. subst (After n v j (suc s)) (ap choose (sym (le-leb v (2 * t.remainder + t.dividend / 9223372036854775808) g))) (taken g))
      (cases_lt (2 * t.remainder + t.dividend / 9223372036854775808) v)

abbrev pub turns : ℕ → ℕ → Turn → Turn
turns zero v t = t
turns (suc k) v t = turns k v (turned v t)

pub turns_after : (k n v j s : ℕ) (t : Turn) → k + j + s ≡ 64 → After n v (k + j) s t → After n v j (k + s) (turns k v t)
turns_after zero n v j s t e a = subst₂ (λ x y. After n v x y t) (omega arith) (omega arith) a
turns_after (suc k) n v j s t e a =
    let a1 : After n v (suc (k + j)) s t = subst (λ x. After n v x s t) (omega arith) a in
    let a2 : After n v j (k + suc s) (turns k v (turned v t)) = turns_after k n v j (suc s) (turned v t) (omega arith) (turned_after n v (k + j) s t (omega arith) a1) in
    subst (λ y. After n v j y (turns (suc k) v t)) (omega arith) a2

-- before the first turn; and where the number has 32 bits alone, which begin at the top
pub begins : (n v : ℕ) → 0 < v → n < 18446744073709551616 → After n v 64 0 (record { dividend = n; remainder = 0 })
begins n v p h = record { quotient = 0; below = p; top = omega arith; small = omega arith; rest = omega arith }

pub begins_short : (n v : ℕ) → 0 < v → n < 4294967296 → After n v 32 32 (record { dividend = n * 4294967296; remainder = 0 })
begins_short n v p h = record { quotient = 0; below = p; top = omega arith; small = omega arith; rest = omega arith }

-- after the last turn
pub ends : (n v : ℕ) (t : Turn) → After n v 0 64 t → (t.dividend ≡ n / v) × (t.remainder ≡ n % v)
ends n v t a =
    let e : n ≡ a.quotient * v + t.remainder = sym (div-one n) ∙ a.top in
    let q : n / v ≡ a.quotient = ap (λ m. m / v) e ∙ div-mul-add a.quotient v t.remainder a.below in
    let r : n % v ≡ t.remainder = ap (λ m. m % v) e ∙ mod-mul-add a.quotient v t.remainder a.below in
    (a.rest ∙ ap (λ m. m * 2 ^ 64 + a.quotient) (mod-one n) ∙ omega (arith, q), sym r)
