-- Signed division: from rounding down to rounding towards zero.
use Rattle.std.proofs.Common.{◌≡◌, ℕ, zero, suc, ◌+◌, ◌-◌, ◌*◌, ◌/◌, ◌%◌, ◌<◌, ℤ, pos, negsuc, neg_ℤ, ◌+ℤ◌, ◌-ℤ◌, ◌*ℤ◌, Option, Some, option_and_then, ◌&&◌, int_div, int_rem, FitsSigned, arith, refl, sym, ap, ◌∙◌, if◌then◌else◌, div-add-mod', mod-lt, zero-lt-suc, div-le_self}
use Rattle.std.proofs.lemmas.Int.{ints}
use Rattle.std.proofs.lemmas.Nat.{div-mul-add}
use native.Mathlib.Nat.{div-eq_of_lt-le, zero-div, zero-mod}
use Rattle.std.specs.Int.{w32}
use Rattle.mc_cmd.specs.Command.{from, up_to}
use Rattle.mc_cmd.specs.World.{wrapped, is_in, quotient, rest_by, floor_by}
use Rattle.cc_line.proofs.Words.{unwrapped_pos, unwrapped_neg}

-- a quotient and rest of x + 1 from those of x
exact_by : (x y q : ℕ) → q * suc y ≡ suc x → (suc (x / suc y) ≡ q) × (x % suc y ≡ y)
exact_by x y zero e = absurd (omega arith)
exact_by x y (suc p) e =
    let q : x / suc y ≡ p = div-eq_of_lt-le {k = p} (suc y) (omega arith) (omega arith) in
    (ap suc q, omega (arith, div-add-mod' x (suc y), ap (λ n. n * suc y) q))

exact : (x y : ℕ) → suc x % suc y ≡ 0 → (suc (x / suc y) ≡ suc x / suc y) × (x % suc y ≡ y)
exact x y e = exact_by x y (suc x / suc y) (omega (arith, div-add-mod' (suc x) (suc y)))

over : (x y r : ℕ) → suc x % suc y ≡ suc r → (x / suc y ≡ suc x / suc y) × (x % suc y ≡ r) × (r < y)
over x y r e =
    let less : suc x % suc y < suc y = mod-lt (suc x) (zero-lt-suc y) in
    let whole : x ≡ suc x / suc y * suc y + r = omega (arith, div-add-mod' (suc x) (suc y)) in
    let q : x / suc y ≡ suc x / suc y = ap (λ n. n / suc y) whole ∙ div-mul-add (suc x / suc y) (suc y) r (omega arith) in
    (q, omega (arith, div-add-mod' x (suc y), ap (λ n. n * suc y) q), omega arith)

-- the scoreboard's rests, by the signs
pub rest_pp : (x y : ℕ) → rest_by (pos x) (pos (suc y)) ≡ Some (pos (x % suc y))
rest_pp x y = ap Some (omega (arith, ints, div-add-mod' x (suc y)))

pub rest_np : (x y : ℕ) → rest_by (negsuc x) (pos (suc y)) ≡ Some (pos (y - x % suc y))
rest_np x y = ap Some (omega (arith, ints, div-add-mod' x (suc y), mod-lt x (zero-lt-suc y)))

negated_suc : (x : ℕ) → pos 0 -ℤ pos (suc x) ≡ negsuc x
negated_suc x = omega (arith, ints)

negated_negsuc : (x : ℕ) → pos 0 -ℤ negsuc x ≡ pos (suc x)
negated_negsuc x = omega (arith, ints)

pub rest_pn : (x y : ℕ) → rest_by (pos (suc x)) (negsuc y) ≡ Some (pos (x % suc y) -ℤ pos y)
rest_pn x y =
    ap (λ z. Some (pos (suc x) +ℤ (pos (suc y) *ℤ floor_by z (suc y)))) (negated_suc x)
    ∙ ap Some (omega (arith, ints, div-add-mod' x (suc y)))

pub rest_zn : (y : ℕ) → rest_by (pos 0) (negsuc y) ≡ Some (pos 0)
rest_zn y = ap Some (omega (arith, ints))

pub rest_nn : (x y : ℕ) → rest_by (negsuc x) (negsuc y) ≡ Some (neg_ℤ (pos (suc x % suc y)))
rest_nn x y =
    ap (λ z. Some (negsuc x +ℤ (pos (suc y) *ℤ floor_by z (suc y)))) (negated_negsuc x)
    ∙ ap Some (omega (arith, ints, div-add-mod' (suc x) (suc y)))

-- `if #a in ..-1 if #m in 1..: #q += 1` and `if #a in 1.. if #m in ..-1: #q += 1`
abbrev pub one_more : ℤ → ℤ → ℤ → ℤ
one_more a m q =
    let p : ℤ = if is_in (up_to (negsuc 0)) a && is_in (from (pos 1)) m then wrapped (q +ℤ pos 1) else q in
    if is_in (from (pos 1)) a && is_in (up_to (negsuc 0)) m then wrapped (p +ℤ pos 1) else p

-- `#q = #a; #q /= #b; #m = #a; #m %= #b`, then those two
abbrev pub div_s_lines : ℤ → ℤ → Option ℤ
div_s_lines a b = option_and_then (λ q. option_and_then (λ m. Some (one_more a m q)) (rest_by a b)) (quotient a b)

-- `#m = #a; #m %= #b; if #a in ..-1 if #m in 1..: #m -= #b; if #a in 0.. if #m in ..-1: #m -= #b`
abbrev pub less_divisor : ℤ → ℤ → ℤ → ℤ
less_divisor a b m =
    let p : ℤ = if is_in (up_to (negsuc 0)) a && is_in (from (pos 1)) m then wrapped (m -ℤ b) else m in
    if is_in (from (pos 0)) a && is_in (up_to (negsuc 0)) p then wrapped (p -ℤ b) else p

abbrev pub rem_s_lines : ℤ → ℤ → Option ℤ
rem_s_lines a b = option_and_then (λ m. Some (less_divisor a b m)) (rest_by a b)

more_pp : (x m : ℕ) (q : ℤ) → one_more (pos x) (pos m) q ≡ q
more_pp x m q = grind arith

more_np_zero : (x : ℕ) (q : ℤ) → one_more (negsuc x) (pos 0) q ≡ q
more_np_zero x q = grind arith

more_np_suc : (x m : ℕ) (q : ℤ) → one_more (negsuc x) (pos (suc m)) q ≡ wrapped (q +ℤ pos 1)
more_np_suc x m q = grind arith

more_pn : (x m : ℕ) (q : ℤ) → one_more (pos (suc x)) (negsuc m) q ≡ wrapped (q +ℤ pos 1)
more_pn x m q = grind arith

more_nn : (x m : ℕ) (q : ℤ) → one_more (negsuc x) (negsuc m) q ≡ q
more_nn x m q = grind arith

less_pp : (x m : ℕ) (b : ℤ) → less_divisor (pos x) b (pos m) ≡ pos m
less_pp x m b = grind arith

less_np_zero : (x : ℕ) (b : ℤ) → less_divisor (negsuc x) b (pos 0) ≡ pos 0
less_np_zero x b = grind arith

less_np_suc : (x m : ℕ) (b : ℤ) → less_divisor (negsuc x) b (pos (suc m)) ≡ wrapped (pos (suc m) -ℤ b)
less_np_suc x m b = grind arith

less_pn : (x m : ℕ) (b : ℤ) → less_divisor (pos x) b (negsuc m) ≡ wrapped (negsuc m -ℤ b)
less_pn x m b = grind arith

less_nn : (x m : ℕ) (b : ℤ) → less_divisor (negsuc x) b (negsuc m) ≡ negsuc m
less_nn x m b = grind arith

-- one more than a quotient below zero
up_one : (n : ℕ) → n < 2147483648 → wrapped (wrapped (negsuc n) +ℤ pos 1) ≡ neg_ℤ (pos n)
up_one zero h = ap (λ z. wrapped (z +ℤ pos 1)) (unwrapped_neg 0 h) ∙ unwrapped_pos 0 h
up_one (suc n) h =
    let e : negsuc (suc n) +ℤ pos 1 ≡ negsuc n = omega (arith, ints) in
    ap (λ z. wrapped (z +ℤ pos 1)) (unwrapped_neg (suc n) h) ∙ ap wrapped e ∙ unwrapped_neg n (omega arith)

div_pn : (x y r : ℕ) → x < 2147483647 → suc x % suc y ≡ r → div_s_lines (pos (suc x)) (negsuc y) ≡ Some (int_div (pos (suc x)) (negsuc y))
div_pn x y zero h e =
    let p : (suc (x / suc y) ≡ suc x / suc y) × (x % suc y ≡ y) = exact x y e in
    let m : pos (x % suc y) -ℤ pos y ≡ pos 0 = omega (arith, ints) in
    let small : x / suc y < 2147483648 = omega (arith, div-le_self x (suc y)) in
    ap (λ z. option_and_then (λ q. option_and_then (λ m. Some (one_more (pos (suc x)) m q)) (rest_by (pos (suc x)) (negsuc y))) (Some (wrapped (floor_by z (suc y))))) (negated_suc x)
    ∙ ap (λ o. option_and_then (λ m. Some (one_more (pos (suc x)) m (wrapped (negsuc (x / suc y))))) o) (rest_pn x y)
    ∙ ap (λ m. Some (one_more (pos (suc x)) m (wrapped (negsuc (x / suc y))))) m
    ∙ ap Some (more_pp (suc x) 0 (wrapped (negsuc (x / suc y))) ∙ unwrapped_neg (x / suc y) small ∙ ap (λ n. neg_ℤ (pos n)) p.0)
div_pn x y (suc r) h e =
    let p : (x / suc y ≡ suc x / suc y) × (x % suc y ≡ r) × (r < y) = over x y r e in
    let m : pos (x % suc y) -ℤ pos y ≡ negsuc (y - suc r) = omega (arith, ints, p.1, p.2) in
    let small : x / suc y < 2147483648 = omega (arith, div-le_self x (suc y)) in
    ap (λ z. option_and_then (λ q. option_and_then (λ m. Some (one_more (pos (suc x)) m q)) (rest_by (pos (suc x)) (negsuc y))) (Some (wrapped (floor_by z (suc y))))) (negated_suc x)
    ∙ ap (λ o. option_and_then (λ m. Some (one_more (pos (suc x)) m (wrapped (negsuc (x / suc y))))) o) (rest_pn x y)
    ∙ ap (λ m. Some (one_more (pos (suc x)) m (wrapped (negsuc (x / suc y))))) m
    ∙ ap Some (more_pn x (y - suc r) (wrapped (negsuc (x / suc y))) ∙ up_one (x / suc y) small ∙ ap (λ n. neg_ℤ (pos n)) p.0)

div_np : (x y r : ℕ) → x < 2147483648 → suc x % suc y ≡ r → div_s_lines (negsuc x) (pos (suc y)) ≡ Some (int_div (negsuc x) (pos (suc y)))
div_np x y zero h e =
    let p : (suc (x / suc y) ≡ suc x / suc y) × (x % suc y ≡ y) = exact x y e in
    let m : y - x % suc y ≡ 0 = omega (arith, p.1) in
    let small : x / suc y < 2147483648 = omega (arith, div-le_self x (suc y)) in
    ap (λ o. option_and_then (λ m. Some (one_more (negsuc x) m (wrapped (negsuc (x / suc y))))) o) (rest_np x y)
    ∙ ap (λ n. Some (one_more (negsuc x) (pos n) (wrapped (negsuc (x / suc y))))) m
    ∙ ap Some (more_np_zero x (wrapped (negsuc (x / suc y))) ∙ unwrapped_neg (x / suc y) small ∙ ap (λ n. neg_ℤ (pos n)) p.0)
div_np x y (suc r) h e =
    let p : (x / suc y ≡ suc x / suc y) × (x % suc y ≡ r) × (r < y) = over x y r e in
    let m : y - x % suc y ≡ suc (y - suc r) = omega (arith, p.1, p.2) in
    let small : x / suc y < 2147483648 = omega (arith, div-le_self x (suc y)) in
    ap (λ o. option_and_then (λ m. Some (one_more (negsuc x) m (wrapped (negsuc (x / suc y))))) o) (rest_np x y)
    ∙ ap (λ n. Some (one_more (negsuc x) (pos n) (wrapped (negsuc (x / suc y))))) m
    ∙ ap Some (more_np_suc x (y - suc r) (wrapped (negsuc (x / suc y))) ∙ up_one (x / suc y) small ∙ ap (λ n. neg_ℤ (pos n)) p.0)

more_nn_rest : (x r : ℕ) (q : ℤ) → one_more (negsuc x) (neg_ℤ (pos r)) q ≡ q
more_nn_rest x zero q = more_np_zero x q
more_nn_rest x (suc r) q = more_nn x r q

-- the quotient of numbers that are scores, but for zero divisors and the one overflow
pub div_s_is : (a b : ℤ) → FitsSigned w32 a → FitsSigned w32 (int_div a b) → (b ≡ pos 0 → ⊥) → div_s_lines a b ≡ Some (int_div a b)
div_s_is a (pos zero) fa fq nz = absurd (nz refl)
div_s_is (pos x) (pos (suc y)) fa fq nz =
    ap (λ o. option_and_then (λ m. Some (one_more (pos x) m (wrapped (pos (x / suc y))))) o) (rest_pp x y)
    ∙ ap Some (more_pp x (x % suc y) (wrapped (pos (x / suc y))) ∙ unwrapped_pos (x / suc y) fq.sfits)
div_s_is (pos zero) (negsuc y) fa fq nz =
    ap (λ o. option_and_then (λ q. option_and_then (λ m. Some (one_more (pos 0) m q)) o) (quotient (pos 0) (negsuc y))) (rest_zn y)
    ∙ ap (λ n. Some (one_more (pos 0) (pos 0) (wrapped (pos n)))) (zero-div (suc y))
    ∙ ap Some (more_pp 0 0 (wrapped (pos 0)) ∙ unwrapped_pos 0 (omega arith) ∙ ap (λ n. neg_ℤ (pos n)) (sym (zero-div (suc y))))
div_s_is (pos (suc x)) (negsuc y) fa fq nz = div_pn x y (suc x % suc y) (omega (arith, fa.sfits)) refl
div_s_is (negsuc x) (pos (suc y)) fa fq nz = div_np x y (suc x % suc y) fa.sfits refl
div_s_is (negsuc x) (negsuc y) fa fq nz =
    ap (λ z. option_and_then (λ q. option_and_then (λ m. Some (one_more (negsuc x) m q)) (rest_by (negsuc x) (negsuc y))) (Some (wrapped (floor_by z (suc y))))) (negated_negsuc x)
    ∙ ap (λ o. option_and_then (λ m. Some (one_more (negsuc x) m (wrapped (pos (suc x / suc y))))) o) (rest_nn x y)
    ∙ ap Some (more_nn_rest x (suc x % suc y) (wrapped (pos (suc x / suc y))) ∙ unwrapped_pos (suc x / suc y) fq.sfits)

rem_pn : (x y r : ℕ) → x < 2147483647 → y < 2147483648 → suc x % suc y ≡ r → rem_s_lines (pos (suc x)) (negsuc y) ≡ Some (pos r)
rem_pn x y zero h k e =
    let p : (suc (x / suc y) ≡ suc x / suc y) × (x % suc y ≡ y) = exact x y e in
    let m : pos (x % suc y) -ℤ pos y ≡ pos 0 = omega (arith, ints, p.1) in
    ap (λ o. option_and_then (λ m. Some (less_divisor (pos (suc x)) (negsuc y) m)) o) (rest_pn x y)
    ∙ ap (λ m. Some (less_divisor (pos (suc x)) (negsuc y) m)) m
    ∙ ap Some (less_pp (suc x) 0 (negsuc y))
rem_pn x y (suc r) h k e =
    let p : (x / suc y ≡ suc x / suc y) × (x % suc y ≡ r) × (r < y) = over x y r e in
    let m : pos (x % suc y) -ℤ pos y ≡ negsuc (y - suc r) = omega (arith, ints, p.1, p.2) in
    let s : negsuc (y - suc r) -ℤ negsuc y ≡ pos (suc r) = omega (arith, ints, p.2) in
    ap (λ o. option_and_then (λ m. Some (less_divisor (pos (suc x)) (negsuc y) m)) o) (rest_pn x y)
    ∙ ap (λ m. Some (less_divisor (pos (suc x)) (negsuc y) m)) m
    ∙ ap Some (less_pn (suc x) (y - suc r) (negsuc y) ∙ ap wrapped s ∙ unwrapped_pos (suc r) (omega (arith, p.2)))

rem_np : (x y r : ℕ) → suc y < 2147483648 → suc x % suc y ≡ r → rem_s_lines (negsuc x) (pos (suc y)) ≡ Some (neg_ℤ (pos r))
rem_np x y zero k e =
    let p : (suc (x / suc y) ≡ suc x / suc y) × (x % suc y ≡ y) = exact x y e in
    let m : y - x % suc y ≡ 0 = omega (arith, p.1) in
    ap (λ o. option_and_then (λ m. Some (less_divisor (negsuc x) (pos (suc y)) m)) o) (rest_np x y)
    ∙ ap (λ n. Some (less_divisor (negsuc x) (pos (suc y)) (pos n))) m
    ∙ ap Some (less_np_zero x (pos (suc y)))
rem_np x y (suc r) k e =
    let p : (x / suc y ≡ suc x / suc y) × (x % suc y ≡ r) × (r < y) = over x y r e in
    let m : y - x % suc y ≡ suc (y - suc r) = omega (arith, p.1, p.2) in
    let s : pos (suc (y - suc r)) -ℤ pos (suc y) ≡ negsuc r = omega (arith, ints, p.2) in
    ap (λ o. option_and_then (λ m. Some (less_divisor (negsuc x) (pos (suc y)) m)) o) (rest_np x y)
    ∙ ap (λ n. Some (less_divisor (negsuc x) (pos (suc y)) (pos n))) m
    ∙ ap Some (less_np_suc x (y - suc r) (pos (suc y)) ∙ ap wrapped s ∙ unwrapped_neg r (omega (arith, p.2)))

less_nn_rest : (x r : ℕ) (b : ℤ) → less_divisor (negsuc x) b (neg_ℤ (pos r)) ≡ neg_ℤ (pos r)
less_nn_rest x zero b = less_np_zero x b
less_nn_rest x (suc r) b = less_nn x r b

-- the rest, without exception but for zero divisors
pub rem_s_is : (a b : ℤ) → FitsSigned w32 a → FitsSigned w32 b → (b ≡ pos 0 → ⊥) → rem_s_lines a b ≡ Some (int_rem a b)
rem_s_is a (pos zero) fa fb nz = absurd (nz refl)
rem_s_is (pos x) (pos (suc y)) fa fb nz = ap (λ o. option_and_then (λ m. Some (less_divisor (pos x) (pos (suc y)) m)) o) (rest_pp x y) ∙ ap Some (less_pp x (x % suc y) (pos (suc y)))
rem_s_is (pos zero) (negsuc y) fa fb nz =
    ap (λ o. option_and_then (λ m. Some (less_divisor (pos 0) (negsuc y) m)) o) (rest_zn y)
    ∙ ap Some (less_pp 0 0 (negsuc y)) ∙ ap (λ n. Some (pos n)) (sym (zero-mod (suc y)))
rem_s_is (pos (suc x)) (negsuc y) fa fb nz = rem_pn x y (suc x % suc y) (omega (arith, fa.sfits)) fb.sfits refl
rem_s_is (negsuc x) (pos (suc y)) fa fb nz = rem_np x y (suc x % suc y) fb.sfits refl
rem_s_is (negsuc x) (negsuc y) fa fb nz =
    ap (λ o. option_and_then (λ m. Some (less_divisor (negsuc x) (negsuc y) m)) o) (rest_nn x y) ∙ ap Some (less_nn_rest x (suc x % suc y) (negsuc y))
