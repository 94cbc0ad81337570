-- Leading and trailing zeros of a word, by halving what may hold them.
use Rattle.std.proofs.Common.{◌≡◌, ℕ, zero, suc, ◌+◌, ◌-◌, ◌*◌, ◌^◌, ◌<◌, ◌≤◌, ℤ, pos, ◌+ℤ◌, ◌*ℤ◌, Bool, false, nat_lt, arith, refl, sym, ap, ◌∙◌, subst, ⊎_elim, if◌then◌else◌, pow-suc, mul-le-mul_right, mul-le-mul_left}
use Rattle.std.proofs.lemmas.Bool.{cases_lt, lt-ltb, le-ltb}
use Rattle.std.proofs.lemmas.Nat.{pow_pos, pow-add}
use native.Mathlib.Nat.{pow-le-pow_right}
use Rattle.std.specs.Int.{w32, int_wrap}
use lib.Count.{count_leading_zeros, leading_top, leading_unique, leading_of_zero}
use Rattle.mc_cmd.specs.Command.{between, exactly}
use Rattle.mc_cmd.specs.World.{wrapped, is_in}
use Rattle.wm_ast.specs.Integer.{iclz}
use Rattle.cc_line.proofs.Words.{score, by_sign, product_of, low_score, unwrapped_pos}

times_lt : (a b c : ℕ) → 0 < c → a < b → a * c < b * c
times_lt a b c p lt = omega (arith, mul-le-mul_right c lt)

too_big : (j k n x : ℕ) → n ≤ j + k → 2 ^ j * 2 ^ k ≤ x → x < 2 ^ n → ⊥
too_big j k n x g le lt = omega (arith, g, le, lt, pow-add 2 j k, pow-le-pow_right {n = 2} (omega arith) {i = n} {j = j + k} g)

positive : (p b : ℕ) → suc b * p ≡ 4294967296 → 0 < p
positive zero b e = absurd (omega arith)
positive (suc p) b e = omega arith

-- a word times 2^k has k leading zeros less, where no bit falls out
pub leading_times : (n a k : ℕ) → 0 < a → a * 2 ^ k < 2 ^ n → count_leading_zeros n (a * 2 ^ k) + k ≡ count_leading_zeros n a
leading_times n a k p h =
    let pk : 0 < 2 ^ k = pow_pos k in
    let grows : a * 1 ≤ a * 2 ^ k = mul-le-mul_left a pk in
    let t : (j : ℕ) × (count_leading_zeros n a + suc j ≡ n) × (2 ^ j ≤ a) × (a < 2 ^ suc j) = leading_top n a p (omega (arith, grows, h)) in
    let j : ℕ = t.0 in
    let up : a * 2 ^ k < 2 ^ (suc t.0 + k) = subst (λ m. a * 2 ^ k < m) (sym (pow-add 2 (suc t.0) k)) (times_lt a (2 ^ suc t.0) (2 ^ k) pk t.3) in
    let double : 2 ^ (suc t.0 + k) ≡ 2 ^ t.0 * 2 * 2 ^ k = pow-add 2 (suc t.0) k ∙ ap (λ m. m * 2 ^ k) (pow-suc 2 t.0) in
    let below : 2 ^ t.0 * 2 ^ k ≤ a * 2 ^ k = mul-le-mul_right (2 ^ k) t.2 in
    let down : 2 ^ (suc t.0 + k) ≤ 2 * (a * 2 ^ k) + 1 = omega (arith, double, below) in
    let room : suc t.0 + k ≤ n = ⊎_elim (λ l. omega (arith, l)) (λ g. absurd (too_big t.0 k n (a * 2 ^ k) g below h)) (cases_lt (t.0 + k) n) in
    let u : n - (suc t.0 + k) ≡ count_leading_zeros n (a * 2 ^ k) = leading_unique n (a * 2 ^ k) (n - (suc t.0 + k)) (suc t.0 + k) (omega (arith, room)) up down in
    omega (arith, u, t.1, room)

pub record Counted : Type 0 where
  pub number : ℕ
  pub count : ℕ

pub record Counting : Type 0 where
  pub number : ℤ
  pub count : ℤ

abbrev pub in_scores : Counted → Counting
in_scores s = record { number = score s.number; count = pos s.count }

abbrev pub lead : ℕ → ℕ → ℕ → Counted → Counted
lead k p b s = if nat_lt s.number b then record { number = s.number * p; count = s.count + k } else s

-- `if #v in 0..: #n += k; if #v in 0..: #v *= #p`
abbrev pub lead_lines : ℕ → ℕ → ℕ → Counting → Counting
lead_lines k p b s = record {
  number = if is_in (between (pos 0) (pos b)) s.number then wrapped (s.number *ℤ pos p) else s.number;
  count = if is_in (between (pos 0) (pos b)) s.number then wrapped (s.count +ℤ pos k) else s.count;
}

below_is : (b : ℕ) → b < 2147483648 → (a : ℕ) → a < 4294967296 → is_in (between (pos 0) (pos b)) (score a) ≡ nat_lt a (suc b)
below_is b hb = by_sign (λ a z. is_in (between (pos 0) (pos b)) z ≡ nat_lt a (suc b))
    (λ m h. grind arith)
    (λ k h. sym (le-ltb (4294967295 - k) (suc b) (omega arith)))

below_top : (a : ℕ) → a < 4294967296 → is_in (between (pos 0) (pos 2147483647)) (score a) ≡ nat_lt a 2147483648
below_top = by_sign (λ a z. is_in (between (pos 0) (pos 2147483647)) z ≡ nat_lt a 2147483648)
    (λ m h. grind arith)
    (λ k h. sym (le-ltb (4294967295 - k) 2147483648 (omega arith)))

zero_sum : (n : ℕ) → 0 + n ≡ n
zero_sum n = omega arith

lead_lines_is : (k p b : ℕ) (s : Counted) → b < 2147483648 → p < 2147483648 → suc b * p ≡ 4294967296 → s.number < 4294967296 → s.count + k < 64 → lead_lines k p b (in_scores s) ≡ in_scores (lead k p (suc b) s)
lead_lines_is k p b s hb hp e h c =
    let t : is_in (between (pos 0) (pos b)) (score s.number) ≡ nat_lt s.number (suc b) = below_is b hb s.number h in
    let w : (x : Bool) → Counting = λ x. record { number = if x then wrapped (score s.number *ℤ pos p) else score s.number; count = if x then wrapped (pos s.count +ℤ pos k) else pos s.count } in
    ap w t
    ∙ ⊎_elim
    (λ l.
    let small : s.number * p < 4294967296 = subst (λ m. s.number * p < m) e (times_lt s.number (suc b) p (positive p b e) l) in
    let n : wrapped (score s.number *ℤ pos p) ≡ score (s.number * p) = ap (λ z. wrapped (score s.number *ℤ z)) (sym (low_score p hp)) ∙ product_of s.number p h (omega arith) ∙ ap score (omega (arith, small)) in
    ap w (lt-ltb s.number (suc b) l) ∙ (λ i. record { number = n i; count = unwrapped_pos (s.count + k) (omega arith) i })
    ∙ ap (λ x. in_scores (if x then record { number = s.number * p; count = s.count + k } else s)) (sym (lt-ltb s.number (suc b) l)))
    (λ g. ap w (le-ltb s.number (suc b) g) ∙ ap (λ x. in_scores (if x then record { number = s.number * p; count = s.count + k } else s)) (sym (le-ltb s.number (suc b) g)))
    (cases_lt s.number (suc b))

-- what a halving keeps
record Leads (m low : ℕ) (s : Counted) : Type 0 where
  zeros : s.count + count_leading_zeros 32 s.number ≡ count_leading_zeros 32 m
  within : s.number < 4294967296
  above : low ≤ s.number
  few : s.count ≤ 31

lead_keeps : (k p b m low most : ℕ) (s : Counted) → 2 ^ k ≡ p → b * p ≡ 4294967296 → b ≤ low * p → 0 < low → s.count + k ≤ 31 → Leads m low s → Leads m b (lead k p b s)
lead_keeps k p b m low most s e f g pl c l =
    ⊎_elim
    (λ lt.
    let pp : 0 < p = subst (λ x. 0 < x) e (pow_pos k) in
    let small : s.number * p < 4294967296 = subst (λ x. s.number * p < x) f (times_lt s.number b p pp lt) in
    let z : count_leading_zeros 32 (s.number * p) + k ≡ count_leading_zeros 32 s.number = subst (λ x. count_leading_zeros 32 (s.number * x) + k ≡ count_leading_zeros 32 s.number) e (leading_times 32 s.number k (omega (arith, l.above)) (subst (λ x. s.number * x < 4294967296) (sym e) small)) in
    let r : Leads m b (record { number = s.number * p; count = s.count + k }) = record {
      zeros = omega (arith, z, l.zeros);
      within = small;
      above = omega (arith, g, mul-le-mul_right p l.above);
      few = c;
    } in
    subst (λ x. Leads m b (if x then record { number = s.number * p; count = s.count + k } else s)) (sym (lt-ltb s.number b lt)) r)
    (λ ge.
    let r : Leads m b s = record { zeros = l.zeros; within = l.within; above = ge; few = l.few } in
    subst (λ x. Leads m b (if x then record { number = s.number * p; count = s.count + k } else s)) (sym (le-ltb s.number b ge)) r)
    (cases_lt s.number b)

-- ---- the leading zeros

abbrev halved_down : Counted → Counted
halved_down s = lead 2 4 1073741824 (lead 4 16 268435456 (lead 8 256 16777216 (lead 16 65536 65536 s)))

-- `#n = 0; if #v in 0: #n = 1`, four halvings, and `if #v in 0..2147483647: #n += 1`
abbrev pub clz_lines : ℤ → ℤ
clz_lines a =
    let s : Counting = lead_lines 2 4 1073741823 (lead_lines 4 16 268435455 (lead_lines 8 256 16777215 (lead_lines 16 65536 65535 (record { number = a; count = if is_in (exactly (pos 0)) a then pos 1 else pos 0 })))) in
    if is_in (between (pos 0) (pos 2147483647)) s.number then wrapped (s.count +ℤ pos 1) else s.count

abbrev last_one : Counting → ℤ
last_one s = if is_in (between (pos 0) (pos 2147483647)) s.number then wrapped (s.count +ℤ pos 1) else s.count

-- a halving of a count below 32 keeps words
lead_bounds : (k p b : ℕ) (s : Counted) → b * p ≡ 4294967296 → 0 < p → s.number < 4294967296 → ((lead k p b s).number < 4294967296) × ((lead k p b s).count ≤ s.count + k)
lead_bounds k p b s e pp h =
    ⊎_elim
    (λ l. subst {A = Counted} (λ x. (x.number < 4294967296) × (x.count ≤ s.count + k)) (ap (λ x. if x then record { number = s.number * p; count = s.count + k } else s) (sym (lt-ltb s.number b l))) (subst (λ m. s.number * p < m) e (times_lt s.number b p pp l), omega arith))
    (λ g. subst {A = Counted} (λ x. (x.number < 4294967296) × (x.count ≤ s.count + k)) (ap (λ x. if x then record { number = s.number * p; count = s.count + k } else s) (sym (le-ltb s.number b g))) (h, omega arith))
    (cases_lt s.number b)

halved_is : (s : Counted) → s.number < 4294967296 → s.count ≤ 1
    → lead_lines 2 4 1073741823 (lead_lines 4 16 268435455 (lead_lines 8 256 16777215 (lead_lines 16 65536 65535 (in_scores s)))) ≡ in_scores (halved_down s)
halved_is s h c =
    let s1 : Counted = lead 16 65536 65536 s in
    let s2 : Counted = lead 8 256 16777216 (lead 16 65536 65536 s) in
    let s3 : Counted = lead 4 16 268435456 (lead 8 256 16777216 (lead 16 65536 65536 s)) in
    let b1 : ((lead 16 65536 65536 s).number < 4294967296) × ((lead 16 65536 65536 s).count ≤ s.count + 16) = lead_bounds 16 65536 65536 s refl (omega arith) h in
    let b2 : (s2.number < 4294967296) × (s2.count ≤ s1.count + 8) = lead_bounds 8 256 16777216 s1 refl (omega arith) b1.0 in
    let b3 : (s3.number < 4294967296) × (s3.count ≤ s2.count + 4) = lead_bounds 4 16 268435456 s2 refl (omega arith) b2.0 in
    ap (λ t. lead_lines 2 4 1073741823 (lead_lines 4 16 268435455 (lead_lines 8 256 16777215 t))) (lead_lines_is 16 65536 65535 s (omega arith) (omega arith) refl h (omega arith))
    ∙ ap (λ t. lead_lines 2 4 1073741823 (lead_lines 4 16 268435455 t)) (lead_lines_is 8 256 16777215 s1 (omega arith) (omega arith) refl b1.0 (omega (arith, b1.1)))
    ∙ ap (lead_lines 2 4 1073741823) (lead_lines_is 4 16 268435455 s2 (omega arith) (omega arith) refl b2.0 (omega (arith, b1.1, b2.1)))
    ∙ lead_lines_is 2 4 1073741823 s3 (omega arith) (omega arith) refl b3.0 (omega (arith, b1.1, b2.1, b3.1))

-- what is left is at least 2^30, so it has one leading zero or none
last_zero : (a : ℕ) → 1073741824 ≤ a → a < 2147483648 → count_leading_zeros 32 a ≡ 1
last_zero a g l = sym (leading_unique 32 a 1 31 refl l (omega arith))

no_zero : (a : ℕ) → 2147483648 ≤ a → a < 4294967296 → count_leading_zeros 32 a ≡ 0
no_zero a g l = sym (leading_unique 32 a 0 32 refl l (omega arith))

last_is : (m : ℕ) (s : Counted) → Leads m 1073741824 s → last_one (in_scores s) ≡ pos (count_leading_zeros 32 m)
last_is m s l =
    let o : Bool → ℤ = λ b. if b then wrapped (pos s.count +ℤ pos 1) else pos s.count in
    ap o (below_top s.number l.within)
    ∙ ⊎_elim
    (λ lt. ap o (lt-ltb s.number 2147483648 lt) ∙ unwrapped_pos (s.count + 1) (omega (arith, l.few)) ∙ ap pos (omega (arith, l.zeros, last_zero s.number l.above lt)))
    (λ ge. ap o (le-ltb s.number 2147483648 ge) ∙ ap pos (omega (arith, l.zeros, no_zero s.number ge l.within)))
    (cases_lt s.number 2147483648)

zero_test : (m : ℕ) → 0 < m → m < 4294967296 → is_in (exactly (pos 0)) (score m) ≡ false
zero_test m p h = by_sign (λ n b. 0 < n → is_in (exactly (pos 0)) b ≡ false) (λ m h p. grind arith) (λ k h p. refl) m h p

leads_down : (m : ℕ) → 0 < m → m < 4294967296 → Leads m 1073741824 (halved_down (record { number = m; count = 0 }))
leads_down m p h =
    let s0 : Counted = record { number = m; count = 0 } in
    let s1 : Counted = lead 16 65536 65536 (record { number = m; count = 0 }) in
    let s2 : Counted = lead 8 256 16777216 s1 in
    let s3 : Counted = lead 4 16 268435456 s2 in
    let b1 : (s1.number < 4294967296) × (s1.count ≤ 0 + 16) = lead_bounds 16 65536 65536 (record { number = m; count = 0 }) refl (omega arith) h in
    let b2 : (s2.number < 4294967296) × (s2.count ≤ s1.count + 8) = lead_bounds 8 256 16777216 s1 refl (omega arith) b1.0 in
    let b3 : (s3.number < 4294967296) × (s3.count ≤ s2.count + 4) = lead_bounds 4 16 268435456 s2 refl (omega arith) b2.0 in
    let l0 : Leads m 1 (record { number = m; count = 0 }) = record { zeros = zero_sum (count_leading_zeros 32 m); within = h; above = omega arith; few = omega arith } in
    let l1 : Leads m 65536 s1 = lead_keeps 16 65536 65536 m 1 0 (record { number = m; count = 0 }) refl refl (omega arith) (omega arith) (omega arith) l0 in
    let l2 : Leads m 16777216 s2 = lead_keeps 8 256 16777216 m 65536 0 s1 refl refl (omega arith) (omega arith) (omega (arith, b1.1)) l1 in
    let l3 : Leads m 268435456 s3 = lead_keeps 4 16 268435456 m 16777216 0 s2 refl refl (omega arith) (omega arith) (omega (arith, b1.1, b2.1)) l2 in
    lead_keeps 2 4 1073741824 m 268435456 0 s3 refl refl (omega arith) (omega arith) (omega (arith, b1.1, b2.1, b3.1)) l3

clz_of_zero : clz_lines (pos 0) ≡ pos 32
unfolding int_wrap
clz_of_zero = refl

pub clz_is : (m : ℕ) → m < 4294967296 → clz_lines (score m) ≡ pos (iclz w32 m)
clz_is zero h = clz_of_zero ∙ ap pos (sym (leading_of_zero 32))
clz_is (suc m) h =
    ap (λ b. last_one (lead_lines 2 4 1073741823 (lead_lines 4 16 268435455 (lead_lines 8 256 16777215 (lead_lines 16 65536 65535 (record { number = score (suc m); count = if b then pos 1 else pos 0 })))))) (zero_test (suc m) (omega arith) h)
    ∙ ap last_one (halved_is (record { number = suc m; count = 0 }) h (omega arith))
    ∙ last_is (suc m) (halved_down (record { number = suc m; count = 0 })) (leads_down (suc m) (omega arith) h)
