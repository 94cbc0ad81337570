-- Trailing zeros of a word, by rests and quotients of its score.
use Rattle.std.proofs.Common.{◌≡◌, ℕ, zero, suc, ◌+◌, ◌-◌, ◌*◌, ◌/◌, ◌%◌, ◌^◌, ◌<◌, ◌≤◌, ℤ, pos, negsuc, ◌+ℤ◌, Some, unwrap_or, Bool, false, ◌==◌, arith, refl, sym, ap, ap₂, ◌∙◌, subst, ⊎_elim, if◌then◌else◌, mod-lt, pow-suc, div-add-mod', mul_assoc, zero-lt-suc, mul_comm, add-mul, div-lt_iff_lt-mul, add-one, mul-one}
use Rattle.std.proofs.lemmas.Bool.{cases_lt, cases_eq, eq-eqb, ne_eqb}
use Rattle.std.proofs.lemmas.Nat.{pow_pos, pow-add, div-mul-add, mod-mul-add, shl-shr}
use native.Mathlib.Nat.{mul-mod_left, div-one}
use Rattle.std.specs.Int.{w32, int_wrap}
use lib.Count.{count_trailing_zeros, trailing_of_zero, under}
use Rattle.mc_cmd.specs.Command.{exactly}
use Rattle.mc_cmd.specs.World.{wrapped, is_in, rest_by, quotient, floor_by}
use Rattle.wm_ast.specs.Integer.{ictz}
use Rattle.cc_line.proofs.Words.{score, by_sign, unwrapped, unwrapped_pos, fits_score}
use Rattle.cc_line.proofs.Rests.{rest_pp, rest_np}
use Rattle.cc_bits.proofs.ShiftFacts.{floor_twice, fits_floor}

div_small : (n d m : ℕ) → 0 < d → n < m * d → n / d < m
div_small n d m p h = (div-lt_iff_lt-mul p).1 h

parts_of : (a u b : ℕ) → u < a → (a - 1 - u) * b + suc u * b ≡ a * b
parts_of a u b lt = sym (add-mul (a - 1 - u) (suc u) b) ∙ ap (λ n. n * b) (omega arith)

odd_now : (y : ℕ) → y % 2 ≡ 1 → (y * 1) % 2 ≡ 1
odd_now y o = omega arith

doubled : (y c : ℕ) → y * 2 ^ suc c ≡ y * 2 ^ c * 2
doubled y c = ap (λ n. y * n) (pow-suc 2 c) ∙ sym (mul_assoc y (2 ^ c) 2)

-- a number whose low c bits are 0, and the next one is 1
pub trailing_of : (n c y : ℕ) → y % 2 ≡ 1 → c < n → count_trailing_zeros n (y * 2 ^ c) ≡ c
unfolding count_trailing_zeros
trailing_of zero c y o h = absurd (omega arith)
trailing_of (suc n) zero y o h = ap (λ d. under d (count_trailing_zeros n (y * 1 / 2))) (odd_now y o)
trailing_of (suc n) (suc c) y o h =
    let e : y * 2 ^ suc c ≡ y * 2 ^ c * 2 = doubled y c in
    let low : (y * 2 ^ suc c) % 2 ≡ 0 = omega (arith, e) in
    let high : (y * 2 ^ suc c) / 2 ≡ y * 2 ^ c = omega (arith, e) in
    ap₂ (λ d x. under d (count_trailing_zeros n x)) low high ∙ ap suc (trailing_of n c y o (omega arith))

-- the rest of the word with all bits turned
turned_rest : (d e q k : ℕ) → d * (suc e * q) ≡ 4294967296 → 0 < d → k < 4294967296 → (4294967295 - k) / d % suc e ≡ e - k / d % suc e
turned_rest d e q k whole pd h =
    let u : ℕ = k / d in
    let v : k % d < d = mod-lt k pd in
    let dk : k / d * d + k % d ≡ k = div-add-mod' k d in
    let t : suc e * q * d ≡ 4294967296 = mul_comm (suc e * q) d ∙ whole in
    let u_small : k / d < suc e * q = div_small k d (suc e * q) pd (subst (λ n. k < n) (sym t) h) in
    let first : (suc e * q - 1 - k / d) * d + suc (k / d) * d ≡ suc e * q * d = parts_of (suc e * q) (k / d) d u_small in
    let s1 : 4294967295 - k ≡ (suc e * q - 1 - k / d) * d + (d - 1 - k % d) = omega (arith, first, t, dk, v) in
    let x1 : (4294967295 - k) / d ≡ suc e * q - 1 - k / d = ap (λ n. n / d) s1 ∙ div-mul-add (suc e * q - 1 - k / d) d (d - 1 - k % d) (omega (arith, v)) in
    let b : k / d % suc e < suc e = mod-lt (k / d) (zero-lt-suc e) in
    let du : k / d / suc e * suc e + k / d % suc e ≡ k / d = div-add-mod' (k / d) (suc e) in
    let a_small : k / d / suc e < q = div_small (k / d) (suc e) q (zero-lt-suc e) (subst (λ n. k / d < n) (mul_comm (suc e) q) u_small) in
    let second : (q - 1 - k / d / suc e) * suc e + suc (k / d / suc e) * suc e ≡ q * suc e = parts_of q (k / d / suc e) (suc e) a_small in
    let s2 : suc e * q - 1 - k / d ≡ (q - 1 - k / d / suc e) * suc e + (e - k / d % suc e) = omega (arith, second, du, b, mul_comm (suc e) q) in
    ap (λ n. n % suc e) x1 ∙ ap (λ n. n % suc e) s2 ∙ mod-mul-add (q - 1 - k / d / suc e) (suc e) (e - k / d % suc e) (omega (arith, b))

-- the rest of a score that was rounded down: that of the word, as far as the word goes
pub rest_floor : (d e q m : ℕ) → d * (suc e * q) ≡ 4294967296 → 0 < d → m < 4294967296 → rest_by (floor_by (score m) d) (pos (suc e)) ≡ Some (pos (m / d % suc e))
rest_floor d e q m whole pd h = by_sign (λ m a. rest_by (floor_by a d) (pos (suc e)) ≡ Some (pos (m / d % suc e)))
    (λ m h. rest_pp (m / d) e)
    (λ k h. rest_np (k / d) e ∙ ap (λ n. Some (pos n)) (sym (turned_rest d e q k whole pd (omega arith))))
    m h

pub record Counted : Type 0 where
  pub number : ℕ
  pub count : ℕ

pub record Counting : Type 0 where
  pub number : ℤ
  pub count : ℤ

-- `#c = #v; #c %= #p; if #c in 0: #n += k; if #c in 0: #v /= #p`
abbrev pub trail_lines : ℕ → ℕ → Counting → Counting
trail_lines k p s =
    let c : ℤ = unwrap_or (rest_by s.number (pos p)) s.number in
    record {
      number = if is_in (exactly (pos 0)) c then unwrap_or (quotient s.number (pos p)) s.number else s.number;
      count = if is_in (exactly (pos 0)) c then wrapped (s.count +ℤ pos k) else s.count;
    }

-- the word's part above the bits that were counted
abbrev pub trail : ℕ → ℕ → Counted → Counted
trail k p s = if (s.number % p) == 0 then record { number = s.number / p; count = s.count + k } else s

-- the score of that part is the word's, rounded down
abbrev in_scores : ℕ → Counted → Counting
in_scores m s = record { number = floor_by (score m) (2 ^ s.count); count = pos s.count }

zero_rest : (x : ℕ) → is_in (exactly (pos 0)) (pos x) ≡ (x == 0)
zero_rest x = grind arith

trail_is : (k e q m : ℕ) (s : Counted) → m < 4294967296 → 2 ^ k ≡ suc e → 2 ^ s.count * (suc e * q) ≡ 4294967296 → s.number ≡ m / 2 ^ s.count → s.count + k < 64
    → trail_lines k (suc e) (in_scores m s) ≡ in_scores m (trail k (suc e) s)
trail_is k e q m s h pk whole is few =
    let z : ℤ = floor_by (score m) (2 ^ s.count) in
    let c : rest_by z (pos (suc e)) ≡ Some (pos (s.number % suc e)) = rest_floor (2 ^ s.count) e q m whole (pow_pos s.count) h ∙ ap (λ n. Some (pos (n % suc e))) (sym is) in
    let w : Bool → Counting = λ b. record { number = if b then wrapped (floor_by z (suc e)) else z; count = if b then wrapped (pos s.count +ℤ pos k) else pos s.count } in
    let deeper : wrapped (floor_by z (suc e)) ≡ floor_by (score m) (2 ^ (s.count + k)) =
    ap wrapped (floor_twice (score m) (2 ^ s.count) (suc e) ∙ ap (λ n. floor_by (score m) (2 ^ s.count * n)) (sym pk) ∙ ap (floor_by (score m)) (sym (pow-add 2 s.count k)))
    ∙ unwrapped (floor_by (score m) (2 ^ (s.count + k))) (fits_floor (score m) (2 ^ (s.count + k)) (fits_score m h)) in
    ap (λ o. w (is_in (exactly (pos 0)) (unwrap_or o z))) c
    ∙ ap w (zero_rest (s.number % suc e))
    ∙ ⊎_elim
    (λ t. ap w (eq-eqb (s.number % suc e) 0 t) ∙ (λ i. record { number = deeper i; count = unwrapped_pos (s.count + k) (omega arith) i })
    ∙ ap (λ b. in_scores m (if b then record { number = s.number / suc e; count = s.count + k } else s)) (sym (eq-eqb (s.number % suc e) 0 t)))
    (λ n. ap w (ne_eqb (s.number % suc e) 0 n)
    ∙ ap (λ b. in_scores m (if b then record { number = s.number / suc e; count = s.count + k } else s)) (sym (ne_eqb (s.number % suc e) 0 n)))
    (cases_eq (s.number % suc e) 0)

-- ---- the trailing zeros

ends_even : (n p : ℕ) → n % p ≡ 0 → n / p * p ≡ n
ends_even n p z = omega (arith, div-add-mod' n p)

half_odd : (n : ℕ) → n % 2 ≡ 0 → (n % 4 ≡ 0 → ⊥) → n / 2 % 2 ≡ 1
half_odd n even left = ⊎_elim (λ z. absurd (left (omega arith))) (λ o. omega (arith, o)) (cases_lt (n / 2 % 2) 1)

not_even : (n : ℕ) → (n % 2 ≡ 0 → ⊥) → n % 2 ≡ 1
not_even n left = ⊎_elim (λ z. absurd (left (omega arith))) (λ o. omega (arith, o)) (cases_lt (n % 2) 1)

whole_of : (c k p : ℕ) → 2 ^ k ≡ p → c + k ≤ 32 → 2 ^ c * (p * 2 ^ (32 - c - k)) ≡ 4294967296
whole_of c k p e le =
    let sum : c + (k + (32 - c - k)) ≡ 32 = omega arith in
    ap (λ n. 2 ^ c * (n * 2 ^ (32 - c - k))) (sym e) ∙ ap (λ n. 2 ^ c * n) (sym (pow-add 2 k (32 - c - k))) ∙ sym (pow-add 2 c (k + (32 - c - k))) ∙ ap (λ n. 2 ^ n) sum

record Trails (m pw most : ℕ) (s : Counted) : Type 0 where
  whole : m ≡ s.number * 2 ^ s.count
  left : s.number % pw ≡ 0 → ⊥
  few : s.count ≤ most

square_rest : (x p : ℕ) → x * p * p % (p * p) ≡ 0
square_rest x p = ap (λ n. n % (p * p)) (mul_assoc x p p) ∙ mul-mod_left x (p * p)

trails_next : (k p m most : ℕ) (s : Counted) → 2 ^ k ≡ p → Trails m (p * p) most s → Trails m p (most + k) (trail k p s)
trails_next k p m most s e t =
    ⊎_elim
    (λ z.
    let d : s.number / p * p ≡ s.number = ends_even s.number p z in
    let r : Trails m p (most + k) (record { number = s.number / p; count = s.count + k }) = record {
      whole = t.whole ∙ ap (λ n. n * 2 ^ s.count) (sym d) ∙ mul_assoc (s.number / p) p (2 ^ s.count) ∙ ap (λ n. s.number / p * n) (mul_comm p (2 ^ s.count) ∙ ap (λ n. 2 ^ s.count * n) (sym e) ∙ sym (pow-add 2 s.count k));
      left = λ q. t.left (ap (λ n. n % (p * p)) (sym d ∙ ap (λ n. n * p) (sym (ends_even (s.number / p) p q))) ∙ square_rest (s.number / p / p) p);
      few = omega (arith, t.few);
    } in
    subst (λ b. Trails m p (most + k) (if b then record { number = s.number / p; count = s.count + k } else s)) (sym (eq-eqb (s.number % p) 0 z)) r)
    (λ n.
    let r : Trails m p (most + k) s = record { whole = t.whole; left = n; few = omega (arith, t.few) } in
    subst (λ b. Trails m p (most + k) (if b then record { number = s.number / p; count = s.count + k } else s)) (sym (ne_eqb (s.number % p) 0 n)) r)
    (cases_eq (s.number % p) 0)

step_is : (k e m pw most : ℕ) (s : Counted) → m < 4294967296 → 2 ^ k ≡ suc e → most + k ≤ 32 → Trails m pw most s → trail_lines k (suc e) (in_scores m s) ≡ in_scores m (trail k (suc e) s)
step_is k e m pw most s h pk room t =
    trail_is k e (2 ^ (32 - s.count - k)) m s h pk (whole_of s.count k (suc e) pk (omega (arith, t.few)))
    (sym (ap (λ n. n / 2 ^ s.count) t.whole ∙ shl-shr s.number s.count)) (omega (arith, t.few))

abbrev down : Counted → Counted
down s = trail 2 4 (trail 4 16 (trail 8 256 (trail 16 65536 s)))

abbrev down_lines : Counting → Counting
down_lines s = trail_lines 2 4 (trail_lines 4 16 (trail_lines 8 256 (trail_lines 16 65536 s)))

-- `#n = 0; if #v in 0: #n = 1`, four of those, and `#c = #v; #c %= #two; if #c in 0: #n += 1`
abbrev last_lines : Counting → ℤ
last_lines s = if is_in (exactly (pos 0)) (unwrap_or (rest_by s.number (pos 2)) s.number) then wrapped (s.count +ℤ pos 1) else s.count

abbrev pub ctz_lines : ℤ → ℤ
ctz_lines a = last_lines (down_lines (record { number = a; count = if is_in (exactly (pos 0)) a then pos 1 else pos 0 }))

last_is : (m : ℕ) (s : Counted) → m < 4294967296 → Trails m 4 30 s → last_lines (in_scores m s) ≡ pos (count_trailing_zeros 32 m)
last_is m s h t =
    let z : ℤ = floor_by (score m) (2 ^ s.count) in
    let o : Bool → ℤ = λ b. if b then wrapped (pos s.count +ℤ pos 1) else pos s.count in
    let is : s.number ≡ m / 2 ^ s.count = sym (ap (λ n. n / 2 ^ s.count) t.whole ∙ shl-shr s.number s.count) in
    let c : rest_by z (pos 2) ≡ Some (pos (s.number % 2)) = rest_floor (2 ^ s.count) 1 (2 ^ (32 - s.count - 1)) m (whole_of s.count 1 2 refl (omega (arith, t.few))) (pow_pos s.count) h ∙ ap (λ n. Some (pos (n % 2))) (sym is) in
    ap (λ r. o (is_in (exactly (pos 0)) (unwrap_or r z))) c
    ∙ ap o (zero_rest (s.number % 2))
    ∙ ⊎_elim
    (λ even.
    let d : s.number / 2 * 2 ≡ s.number = ends_even s.number 2 even in
    let odd : s.number / 2 % 2 ≡ 1 = half_odd s.number even t.left in
    let m_is : m ≡ s.number / 2 * 2 ^ suc s.count = t.whole ∙ ap (λ n. n * 2 ^ s.count) (sym d) ∙ omega (arith, doubled (s.number / 2) s.count) in
    ap o (eq-eqb (s.number % 2) 0 even) ∙ unwrapped_pos (s.count + 1) (omega (arith, t.few))
    ∙ ap pos (add-one s.count ∙ sym (ap (count_trailing_zeros 32) m_is ∙ trailing_of 32 (suc s.count) (s.number / 2) odd (omega (arith, t.few)))))
    (λ n.
    let odd : s.number % 2 ≡ 1 = not_even s.number n in
    ap o (ne_eqb (s.number % 2) 0 n) ∙ ap pos (sym (ap (count_trailing_zeros 32) t.whole ∙ trailing_of 32 s.count s.number odd (omega (arith, t.few)))))
    (cases_eq (s.number % 2) 0)

ctz_of_zero : ctz_lines (pos 0) ≡ pos 32
unfolding int_wrap
ctz_of_zero = refl

none_down : (z : ℤ) → z ≡ floor_by z 1
none_down (pos n) = ap pos (sym (div-one n))
none_down (negsuc n) = ap negsuc (sym (div-one n))

zero_test : (m : ℕ) → 0 < m → m < 4294967296 → is_in (exactly (pos 0)) (score m) ≡ false
zero_test m p h = by_sign (λ n b. 0 < n → is_in (exactly (pos 0)) b ≡ false) (λ m h p. grind arith) (λ k h p. refl) m h p

pub ctz_is : (m : ℕ) → m < 4294967296 → ctz_lines (score m) ≡ pos (ictz w32 m)
ctz_is zero h = ctz_of_zero ∙ ap pos (sym (trailing_of_zero 32))
ctz_is (suc m) h =
    let s0 : Counted = record { number = suc m; count = 0 } in
    let t0 : Trails (suc m) (65536 * 65536) 0 (record { number = suc m; count = 0 }) = record { whole = sym (mul-one (suc m)); left = λ z. absurd (omega (arith, z)); few = omega arith } in
    let s1 : Counted = trail 16 65536 (record { number = suc m; count = 0 }) in
    let t1 : Trails (suc m) 65536 16 s1 = trails_next 16 65536 (suc m) 0 (record { number = suc m; count = 0 }) refl t0 in
    let s2 : Counted = trail 8 256 s1 in
    let t2 : Trails (suc m) 256 24 s2 = trails_next 8 256 (suc m) 16 s1 refl t1 in
    let s3 : Counted = trail 4 16 s2 in
    let t3 : Trails (suc m) 16 28 s3 = trails_next 4 16 (suc m) 24 s2 refl t2 in
    let t4 : Trails (suc m) 4 30 (trail 2 4 s3) = trails_next 2 4 (suc m) 28 s3 refl t3 in
    ap (λ b. last_lines (down_lines (record { number = score (suc m); count = if b then pos 1 else pos 0 }))) (zero_test (suc m) (omega arith) h)
    ∙ ap (λ z. last_lines (down_lines (record { number = z; count = pos 0 }))) (none_down (score (suc m)))
    ∙ ap (λ t. last_lines (trail_lines 2 4 (trail_lines 4 16 (trail_lines 8 256 t)))) (step_is 16 65535 (suc m) 4294967296 0 (record { number = suc m; count = 0 }) h refl (omega arith) t0)
    ∙ ap (λ t. last_lines (trail_lines 2 4 (trail_lines 4 16 t))) (step_is 8 255 (suc m) 65536 16 s1 h refl (omega arith) t1)
    ∙ ap (λ t. last_lines (trail_lines 2 4 t)) (step_is 4 15 (suc m) 256 24 s2 h refl (omega arith) t2)
    ∙ ap last_lines (step_is 2 3 (suc m) 16 28 s3 h refl (omega arith) t3)
    ∙ last_is (suc m) (trail 2 4 s3) h t4
