-- Unsigned division of words by the scoreboard's signed one.
use Rattle.std.proofs.Common.{◌≡◌, ℕ, zero, suc, ◌+◌, ◌-◌, ◌*◌, ◌/◌, ◌%◌, ◌<◌, ◌≤◌, ℤ, pos, negsuc, ◌+ℤ◌, ◌-ℤ◌, ◌*ℤ◌, Some, unwrap_or, Bool, true, false, ◌&&◌, nat_le, int_le, arith, refl, sym, ap, ap₂, ◌∙◌, ⊎_elim, if◌then◌else◌, div-add-mod', mod-lt, div-le_self, div-mul-le_self, mod-eq_of_lt, zero-le}
use native.Mathlib.Nat.{div-eq_of_lt}
use Rattle.std.proofs.lemmas.Bool.{cases_lt, lt-leb, le-leb}
use Rattle.std.proofs.lemmas.Int.{ints}
use Rattle.std.proofs.lemmas.Nat.{div-mul-add, mod-mul-add}
use Rattle.mc_cmd.specs.Command.{up_to, from}
use Rattle.mc_cmd.specs.World.{wrapped, is_in, quotient, rest_by, floor_by}
use Rattle.cc_i32.specs.Light.{least}
use Rattle.cc_line.proofs.Words.{score, by_sign, by_signs, sum_of, difference_of, product_of, low_score, high_score, unwrapped_pos, unwrapped_neg}

-- ---- by a divisor from 2^31 on: the quotient is 1 or 0

by_high : (m n : ℕ) → m < 4294967296 → 2147483648 ≤ n → n ≤ m → (m / n ≡ 1) × (m % n ≡ m - n)
by_high m n h k le =
    let e : m ≡ 1 * n + (m - n) = omega arith in
    (ap (λ x. x / n) e ∙ div-mul-add 1 n (m - n) (omega arith), ap (λ x. x % n) e ∙ mod-mul-add 1 n (m - n) (omega arith))

by_higher : (m n : ℕ) → m < n → (m / n ≡ 0) × (m % n ≡ m)
by_higher m n lt = (div-eq_of_lt lt, mod-eq_of_lt lt)

-- ---- by a divisor below 2^31: twice the quotient of half the dividend, and what that leaves, which is below twice the
-- divisor

halved_rest : (m n : ℕ) → 0 < n → m - 2 * (m / 2 / n) * n ≡ 2 * (m / 2 % n) + m % 2
halved_rest m n p = omega (arith, div-add-mod' (m / 2) n)

halved_fits : (m n : ℕ) → 2 * (m / 2 / n) * n ≤ m
halved_fits m n = omega (arith, div-mul-le_self (m / 2) n)

halved_below : (m n : ℕ) → 0 < n → m - 2 * (m / 2 / n) * n < 2 * n
halved_below m n p = omega (arith, halved_rest m n p, mod-lt (m / 2) p)

halved_low : (m n : ℕ) → 0 < n → m - 2 * (m / 2 / n) * n < n → (m / n ≡ 2 * (m / 2 / n)) × (m % n ≡ m - 2 * (m / 2 / n) * n)
halved_low m n p lt =
    let e : m ≡ 2 * (m / 2 / n) * n + (m - 2 * (m / 2 / n) * n) = omega (arith, halved_fits m n) in
    (ap (λ x. x / n) e ∙ div-mul-add (2 * (m / 2 / n)) n (m - 2 * (m / 2 / n) * n) lt, ap (λ x. x % n) e ∙ mod-mul-add (2 * (m / 2 / n)) n (m - 2 * (m / 2 / n) * n) lt)

halved_high : (m n : ℕ) → 0 < n → n ≤ m - 2 * (m / 2 / n) * n → (m / n ≡ 2 * (m / 2 / n) + 1) × (m % n ≡ m - 2 * (m / 2 / n) * n - n)
halved_high m n p ge =
    let r : ℕ = m - 2 * (m / 2 / n) * n - n in
    let lt : r < n = omega (arith, halved_below m n p) in
    let e : m ≡ (2 * (m / 2 / n) + 1) * n + r = omega (arith, halved_fits m n) in
    (ap (λ x. x / n) e ∙ div-mul-add (2 * (m / 2 / n) + 1) n r lt, ap (λ x. x % n) e ∙ mod-mul-add (2 * (m / 2 / n) + 1) n r lt)

half_high : (m : ℕ) → 2147483648 ≤ m → m < 4294967296 → wrapped (wrapped (floor_by (score m) 2) -ℤ least) ≡ pos (m / 2)
half_high m g h = by_sign (λ m a. 2147483648 ≤ m → wrapped (wrapped (floor_by a 2) -ℤ negsuc 2147483647) ≡ pos (m / 2))
    (λ m h g. absurd (omega arith))
    (λ k h g.
    let e : negsuc (k / 2) -ℤ negsuc 2147483647 ≡ pos ((4294967295 - k) / 2) = omega (arith, ints) in
    ap (λ c. wrapped (c -ℤ negsuc 2147483647)) (unwrapped_neg (k / 2) (omega arith))
    ∙ ap wrapped e ∙ unwrapped_pos ((4294967295 - k) / 2) (omega arith))
    m h g

quotient_by : (a : ℤ) (n : ℕ) → 0 < n → quotient a (pos n) ≡ Some (wrapped (floor_by a n))
quotient_by a zero p = absurd (omega arith)
quotient_by a (suc n) p = refl

rest_by_low : (m n : ℕ) → 0 < n → rest_by (pos m) (pos n) ≡ Some (pos (m % n))
rest_by_low m zero p = absurd (omega arith)
rest_by_low m (suc n) p = ap Some (omega (arith, ints, div-add-mod' m (suc n)))

-- ---- the lines for a dividend from 2^31 on and a divisor below

abbrev twice : ℤ → ℤ → ℤ
twice a b =
    let half : ℤ = wrapped (unwrap_or (quotient a (pos 2)) a -ℤ least) in
    let u : ℤ = unwrap_or (quotient half b) half in
    wrapped (u +ℤ u)

twice_is : (m n : ℕ) → 2147483648 ≤ m → m < 4294967296 → 0 < n → n < 2147483648 → twice (score m) (score n) ≡ score (2 * (m / 2 / n))
twice_is m n g h p k =
    let half : wrapped (wrapped (floor_by (score m) 2) -ℤ least) ≡ pos (m / 2) = half_high m g h in
    let small : m / 2 / n < 2147483648 = omega (arith, div-le_self (m / 2) n) in
    let u : quotient (pos (m / 2)) (pos n) ≡ Some (pos (m / 2 / n)) = quotient_by (pos (m / 2)) n p ∙ ap Some (unwrapped_pos (m / 2 / n) small) in
    ap (λ b. twice (score m) b) (low_score n k)
    ∙ ap (λ c. let u : ℤ = unwrap_or (quotient c (pos n)) c in wrapped (u +ℤ u)) half
    ∙ ap (λ o. let u : ℤ = unwrap_or o (pos (m / 2)) in wrapped (u +ℤ u)) u
    ∙ ap₂ (λ x y. wrapped (x +ℤ y)) (sym (low_score (m / 2 / n) small)) (sym (low_score (m / 2 / n) small))
    ∙ sum_of (m / 2 / n) (m / 2 / n) (omega arith) (omega arith)
    ∙ ap score (let e : (m / 2 / n + m / 2 / n) % 4294967296 ≡ 2 * (m / 2 / n) = omega arith in e)

-- what it leaves
leaves_is : (m n u : ℕ) → m < 4294967296 → n < 2147483648 → 2 * u * n ≤ m → 2 * u < 4294967296 → wrapped (score m -ℤ wrapped (score (2 * u) *ℤ score n)) ≡ score (m - 2 * u * n)
leaves_is m n u h k fits small =
    ap (λ z. wrapped (score m -ℤ z)) (product_of (2 * u) n small (omega arith) ∙ ap score (let e : (2 * u * n) % 4294967296 ≡ 2 * u * n = omega arith in e))
    ∙ difference_of m (2 * u * n) h (omega arith)
    ∙ ap score (let e : (m + (4294967296 - 2 * u * n)) % 4294967296 ≡ m - 2 * u * n = omega arith in e)

-- one more where the rest is from 2^31 on, or at least the divisor; and the rest less the divisor there
abbrev one_more_by : ℤ → ℤ → ℤ → ℤ
one_more_by e b c =
    let p : ℤ = if is_in (up_to (negsuc 0)) e then wrapped (c +ℤ pos 1) else c in
    if int_le b e then wrapped (p +ℤ pos 1) else p

abbrev less_by : ℤ → ℤ → ℤ
less_by e b =
    let p : ℤ = if is_in (up_to (negsuc 0)) e then wrapped (e -ℤ b) else e in
    if int_le b p then wrapped (p -ℤ b) else p

more_low : (r n : ℕ) (c : ℤ) → r < n → n < 2147483648 → one_more_by (score r) (score n) c ≡ c
more_low r n c lt k = ap₂ (λ e b. one_more_by e b c) (low_score r (omega arith)) (low_score n k) ∙ ap (λ b. if b then wrapped (c +ℤ pos 1) else c) (lt-leb n r lt)

less_low : (r n : ℕ) → r < n → n < 2147483648 → less_by (score r) (score n) ≡ score r
less_low r n lt k = ap₂ less_by (low_score r (omega arith)) (low_score n k) ∙ ap (λ b. if b then wrapped (pos r -ℤ pos n) else pos r) (lt-leb n r lt) ∙ sym (low_score r (omega arith))

more_high : (r n : ℕ) (c : ℤ) → n ≤ r → r < 2 * n → n < 2147483648 → one_more_by (score r) (score n) c ≡ wrapped (c +ℤ pos 1)
more_high r n c ge lt k = ap (λ b. one_more_by (score r) b c) (low_score n k) ∙ by_sign (λ r e. n ≤ r → one_more_by e (pos n) c ≡ wrapped (c +ℤ pos 1))
    (λ r h g. ap (λ b. if b then wrapped (c +ℤ pos 1) else c) (le-leb n r g))
    (λ l h g. ap (λ b. let p : ℤ = if b then wrapped (c +ℤ pos 1) else c in p) (le-leb 0 l zero-le))
    r (omega arith) ge

less_high : (r n : ℕ) → n ≤ r → r < 2 * n → n < 2147483648 → less_by (score r) (score n) ≡ score (r - n)
less_high r n ge lt k =
    ⊎_elim
    (λ l.
    ap₂ less_by (low_score r l) (low_score n k)
    ∙ ap (λ b. if b then wrapped (pos r -ℤ pos n) else pos r) (le-leb n r ge)
    ∙ ap₂ (λ x y. wrapped (x -ℤ y)) (sym (low_score r l)) (sym (low_score n k))
    ∙ minus)
    (λ g.
    let a : is_in (up_to (negsuc 0)) (score r) ≡ true = high_negative r g (omega arith) in
    let b : int_le (score n) (score (r - n)) ≡ false = ap₂ int_le (low_score n k) (low_score (r - n) (omega arith)) ∙ lt-leb n (r - n) (omega arith) in
    ap (λ b. let p : ℤ = if b then wrapped (score r -ℤ score n) else score r in if int_le (score n) p then wrapped (p -ℤ score n) else p) a
    ∙ ap (λ p. if int_le (score n) p then wrapped (p -ℤ score n) else p) minus
    ∙ ap (λ b. if b then wrapped (score (r - n) -ℤ score n) else score (r - n)) b)
    (cases_lt r 2147483648)
  where
    minus : wrapped (score r -ℤ score n) ≡ score (r - n)
    minus = difference_of r n (omega arith) (omega arith) ∙ ap score (let e : (r + (4294967296 - n)) % 4294967296 ≡ r - n = omega arith in e)

    high_negative : (r : ℕ) → 2147483648 ≤ r → r < 4294967296 → is_in (up_to (negsuc 0)) (score r) ≡ true
    high_negative r g h = by_sign (λ r e. 2147483648 ≤ r → is_in (up_to (negsuc 0)) e ≡ true) (λ r h g. absurd (omega arith)) (λ l h g. le-leb 0 l zero-le) r h g

abbrev pub high_quotient_value : ℤ → ℤ → ℤ
high_quotient_value a b = let c : ℤ = twice a b in one_more_by (wrapped (a -ℤ wrapped (c *ℤ b))) b c

abbrev pub high_rest_value : ℤ → ℤ → ℤ
high_rest_value a b = less_by (wrapped (a -ℤ wrapped (twice a b *ℤ b))) b

high_quotient_is : (m n : ℕ) → 2147483648 ≤ m → m < 4294967296 → 0 < n → n < 2147483648 → high_quotient_value (score m) (score n) ≡ score (m / n)
high_quotient_is m n g h p k =
    let u : ℕ = m / 2 / n in
    let fits : 2 * u * n ≤ m = halved_fits m n in
    let below : m - 2 * u * n < 2 * n = halved_below m n p in
    let small : u < 2147483648 = omega (arith, div-le_self (m / 2) n) in
    ap (λ c. one_more_by (wrapped (score m -ℤ wrapped (c *ℤ score n))) (score n) c) (twice_is m n g h p k)
    ∙ ap (λ e. one_more_by e (score n) (score (2 * u))) (leaves_is m n u h k fits (omega arith))
    ∙ ⊎_elim
    (λ lt. more_low (m - 2 * u * n) n (score (2 * u)) lt k ∙ ap score (sym (halved_low m n p lt).0))
    (λ ge. more_high (m - 2 * u * n) n (score (2 * u)) ge below k ∙ sum_of (2 * u) 1 (omega arith) (omega arith) ∙ ap score (let d : m / n ≡ 2 * u + 1 = (halved_high m n p ge).0 in let e : (2 * u + 1) % 4294967296 ≡ m / n = omega (arith, div-le_self m n) in e))
    (cases_lt (m - 2 * u * n) n)

high_rest_is : (m n : ℕ) → 2147483648 ≤ m → m < 4294967296 → 0 < n → n < 2147483648 → high_rest_value (score m) (score n) ≡ score (m % n)
high_rest_is m n g h p k =
    let u : ℕ = m / 2 / n in
    let fits : 2 * u * n ≤ m = halved_fits m n in
    let below : m - 2 * u * n < 2 * n = halved_below m n p in
    let small : u < 2147483648 = omega (arith, div-le_self (m / 2) n) in
    ap (λ c. less_by (wrapped (score m -ℤ wrapped (c *ℤ score n))) (score n)) (twice_is m n g h p k)
    ∙ ap (λ e. less_by e (score n)) (leaves_is m n u h k fits (omega arith))
    ∙ ⊎_elim
    (λ lt. less_low (m - 2 * u * n) n lt k ∙ ap score (sym (halved_low m n p lt).1))
    (λ ge. less_high (m - 2 * u * n) n ge below k ∙ ap score (sym (halved_high m n p ge).1))
    (cases_lt (m - 2 * u * n) n)

-- ---- all cases by the signs

abbrev pub plain_quotient_value : ℤ → ℤ → ℤ
plain_quotient_value a b =
    let d0 : ℤ = if is_in (up_to (negsuc 0)) a && int_le b a then pos 1 else pos 0 in
    let d1 : ℤ = if is_in (from (pos 0)) b && is_in (from (pos 0)) a then a else d0 in
    if is_in (from (pos 0)) b && is_in (from (pos 0)) a then unwrap_or (quotient d1 b) d1 else d1

abbrev pub plain_rest_value : ℤ → ℤ → ℤ
plain_rest_value a b =
    let d0 : ℤ = if is_in (up_to (negsuc 0)) a && int_le b a then wrapped (a -ℤ b) else a in
    if is_in (from (pos 0)) b && is_in (from (pos 0)) a then unwrap_or (rest_by d0 b) d0 else d0

-- whether the helper is called
abbrev pub calls_helper : ℤ → ℤ → Bool
calls_helper a b = is_in (from (pos 0)) b && is_in (up_to (negsuc 0)) a

abbrev pub quotient_value : ℤ → ℤ → ℤ
quotient_value a b = if calls_helper a b then high_quotient_value a b else plain_quotient_value a b

abbrev pub rest_value : ℤ → ℤ → ℤ
rest_value a b = if calls_helper a b then high_rest_value a b else plain_rest_value a b

-- the choice by the signs: of the divisor and the dividend whether each is below 0 and from 0 on, and whether the one is
-- at least the other
abbrev pick_quotient : Bool → Bool → Bool → Bool → ℤ → ℤ → ℤ → ℤ
pick_quotient an bp ap ge a b high =
    let d0 : ℤ = if an && ge then pos 1 else pos 0 in
    let d1 : ℤ = if bp && ap then a else d0 in
    if bp && an then high else (if bp && ap then unwrap_or (quotient d1 b) d1 else d1)

abbrev pick_rest : Bool → Bool → Bool → Bool → ℤ → ℤ → ℤ → ℤ
pick_rest an bp ap ge a b high =
    let d0 : ℤ = if an && ge then wrapped (a -ℤ b) else a in
    if bp && an then high else (if bp && ap then unwrap_or (rest_by d0 b) d0 else d0)

pub quotient_value_is : (m n : ℕ) → m < 4294967296 → n < 4294967296 → 0 < n → quotient_value (score m) (score n) ≡ score (m / n)
quotient_value_is = by_signs (λ m a n b. 0 < n → quotient_value a b ≡ score (m / n))
    (λ m n hm hn p.
    ap₂ (λ x y. pick_quotient false x y (nat_le n m) (pos m) (pos n) (high_quotient_value (pos m) (pos n))) (le-leb 0 n zero-le) (le-leb 0 m zero-le)
    ∙ ap (λ o. unwrap_or o (pos m)) (quotient_by (pos m) n p)
    ∙ unwrapped_pos (m / n) (omega (arith, div-le_self m n))
    ∙ sym (low_score (m / n) (omega (arith, div-le_self m n))))
    (λ m k hm hk p. ap score (sym (by_higher m (4294967295 - k) (omega arith)).0))
    (λ k n hk hn p.
    ap₂ (λ x y. pick_quotient x y false false (negsuc k) (pos n) (high_quotient_value (negsuc k) (pos n))) (le-leb 0 k zero-le) (le-leb 0 n zero-le)
    ∙ ap₂ high_quotient_value (sym (high_score k hk)) (sym (low_score n hn))
    ∙ high_quotient_is (4294967295 - k) n (omega arith) (omega arith) p hn)
    (λ k l hk hl p.
    ap (λ x. pick_quotient x false false (nat_le k l) (negsuc k) (negsuc l) (high_quotient_value (negsuc k) (negsuc l))) (le-leb 0 k zero-le)
    ∙ ⊎_elim
    (λ lt. ap (λ b. if b then pos 1 else pos 0) (lt-leb k l lt) ∙ ap score (sym (by_higher (4294967295 - k) (4294967295 - l) (omega arith)).0))
    (λ ge. ap (λ b. if b then pos 1 else pos 0) (le-leb k l ge) ∙ ap score (sym (by_high (4294967295 - k) (4294967295 - l) (omega arith) (omega arith) (omega arith)).0))
    (cases_lt l k))

pub rest_value_is : (m n : ℕ) → m < 4294967296 → n < 4294967296 → 0 < n → rest_value (score m) (score n) ≡ score (m % n)
rest_value_is = by_signs (λ m a n b. 0 < n → rest_value a b ≡ score (m % n))
    (λ m n hm hn p.
    let small : m % n < 2147483648 = omega (arith, mod-lt m p) in
    ap₂ (λ x y. pick_rest false x y (nat_le n m) (pos m) (pos n) (high_rest_value (pos m) (pos n))) (le-leb 0 n zero-le) (le-leb 0 m zero-le)
    ∙ ap (λ o. unwrap_or o (pos m)) (rest_by_low m n p)
    ∙ sym (low_score (m % n) small))
    (λ m k hm hk p. sym (low_score m hm) ∙ ap score (sym (by_higher m (4294967295 - k) (omega arith)).1))
    (λ k n hk hn p.
    ap₂ (λ x y. pick_rest x y false false (negsuc k) (pos n) (high_rest_value (negsuc k) (pos n))) (le-leb 0 k zero-le) (le-leb 0 n zero-le)
    ∙ ap₂ high_rest_value (sym (high_score k hk)) (sym (low_score n hn))
    ∙ high_rest_is (4294967295 - k) n (omega arith) (omega arith) p hn)
    (λ k l hk hl p.
    ap (λ x. pick_rest x false false (nat_le k l) (negsuc k) (negsuc l) (high_rest_value (negsuc k) (negsuc l))) (le-leb 0 k zero-le)
    ∙ ⊎_elim
    (λ lt. ap (λ b. if b then wrapped (negsuc k -ℤ negsuc l) else negsuc k) (lt-leb k l lt) ∙ sym (high_score k hk) ∙ ap score (sym (by_higher (4294967295 - k) (4294967295 - l) (omega arith)).1))
    (λ ge.
    ap (λ b. if b then wrapped (negsuc k -ℤ negsuc l) else negsuc k) (le-leb k l ge)
    ∙ ap₂ (λ x y. wrapped (x -ℤ y)) (sym (high_score k hk)) (sym (high_score l hl))
    ∙ difference_of (4294967295 - k) (4294967295 - l) (omega arith) (omega arith)
    ∙ ap score (let d : (4294967295 - k) % (4294967295 - l) ≡ 4294967295 - k - (4294967295 - l) = (by_high (4294967295 - k) (4294967295 - l) (omega arith) (omega arith) (omega arith)).1 in let e : (4294967295 - k + (4294967296 - (4294967295 - l))) % 4294967296 ≡ (4294967295 - k) % (4294967295 - l) = omega arith in e))
    (cases_lt l k))
