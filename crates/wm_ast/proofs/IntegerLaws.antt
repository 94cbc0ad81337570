-- Laws of the operators on integers, at any width.
use Rattle.std.proofs.Common.{◌≡◌, ℕ, zero, suc, ◌+◌, ◌-◌, ◌*◌, ◌/◌, ◌%◌, ◌^◌, ◌<◌, ℤ, pos, negsuc, neg_ℤ, bit_or, int_div, FitsSigned, arith, refl, sym, ap, ap₂, ◌∙◌, subst, add-zero, mul-one, div-one, mod-eq_of_lt, ne_eqb, div-le_self, if◌then◌else◌}
use Rattle.std.proofs.lemmas.Nat.{shl-shr, shr-shr, shr_below, mod-pow-add, or_shifted, or_comm}
use native.Mathlib.Nat.{mul-mod_left, mod-lt, div-eq_of_lt, mod_self, mod-mod, sub-zero, zero-add, lt_irrefl, div-lt_self}
use Rattle.std.specs.Int.{Width, cast_signed, cast_unsigned, rotate_left, rotate_right}
use lib.Bits.{or_self}
use mir.Val.{bits, hbits}
use mir.ValLaws.{pow-bits}
use lib.Signed.{mag}
use Rattle.wm_ast.specs.Integer.{number, overflows, rotated, irotl, irotr, in_range, idiv_s}

-- the bits that a shift by r drops at the top are those that a shift by the rest keeps at the bottom
pub fallen : (i r s : ℕ) → (i * 2 ^ r) / 2 ^ (r + s) ≡ i / 2 ^ s
fallen i r s = sym (shr-shr (i * 2 ^ r) r s) ∙ ap (λ x. x / 2 ^ s) (shl-shr i r)

pub kept : (i r s : ℕ) → (i * 2 ^ r) % 2 ^ (s + r) ≡ (i % 2 ^ s) * 2 ^ r
kept i r s =
    mod-pow-add (i * 2 ^ r) s r
    ∙ ap (λ x. (x % 2 ^ s) * 2 ^ r + (i * 2 ^ r) % 2 ^ r) (shl-shr i r)
    ∙ ap (λ x. (i % 2 ^ s) * 2 ^ r + x) (mul-mod_left i (2 ^ r))
    ∙ add-zero ((i % 2 ^ s) * 2 ^ r)

-- a rotation as the two shifts joined
pub rotated_as_or : (i r s n : ℕ) → n ≡ r + s → i < 2 ^ n → bit_or ((i * 2 ^ r) % 2 ^ n) (i / 2 ^ s) ≡ (i * 2 ^ r) % 2 ^ n + (i * 2 ^ r) / 2 ^ n
rotated_as_or i r s n e lt =
    let e' : n ≡ s + r = omega arith in
    let low : i / 2 ^ s < 2 ^ r = shr_below i r s (subst (λ m. i < 2 ^ m) e lt) in
    let k : (i * 2 ^ r) % 2 ^ n ≡ (i % 2 ^ s) * 2 ^ r = ap (λ m. (i * 2 ^ r) % 2 ^ m) e' ∙ kept i r s in
    let f : (i * 2 ^ r) / 2 ^ n ≡ i / 2 ^ s = ap (λ m. (i * 2 ^ r) / 2 ^ m) e ∙ fallen i r s in
    ap (λ x. bit_or x (i / 2 ^ s)) k ∙ or_shifted (i % 2 ^ s) r (i / 2 ^ s) low ∙ sym (ap₂ (λ x y. x + y) k f)

times_one : (i : ℕ) → i * 2 ^ 0 ≡ i
times_one i = mul-one i

by_one : (i : ℕ) → i / 2 ^ 0 ≡ i
by_one i = div-one i

self_mod : (n : ℕ) → 0 < n → n % n ≡ 0
self_mod n h = mod_self n

-- no turn at all
pub unrotated : (i n : ℕ) → i < 2 ^ n → (i * 2 ^ 0) % 2 ^ n + (i * 2 ^ 0) / 2 ^ n ≡ i
unrotated i n lt =
    ap (λ x. x % 2 ^ n + x / 2 ^ n) (times_one i)
    ∙ ap₂ (λ x y. x + y) (mod-eq_of_lt lt) (div-eq_of_lt lt)
    ∙ add-zero i

-- a whole turn
pub rotated_round : (i n : ℕ) → (i * 2 ^ n) % 2 ^ n + (i * 2 ^ n) / 2 ^ n ≡ i
rotated_round i n = ap₂ (λ x y. x + y) (mul-mod_left i (2 ^ n)) (shl-shr i n) ∙ zero-add i

left_as_or : (i r n : ℕ) → r < n → i < 2 ^ n → bit_or ((i * 2 ^ r) % 2 ^ n) (i / 2 ^ ((n - r) % n)) ≡ (i * 2 ^ r) % 2 ^ n + (i * 2 ^ r) / 2 ^ n
left_as_or i zero n h lt =
    let none : (n - 0) % n ≡ 0 = ap (λ x. x % n) (sub-zero n) ∙ self_mod n h in
    ap₂ bit_or (ap (λ x. x % 2 ^ n) (times_one i) ∙ mod-eq_of_lt lt) (ap (λ x. i / 2 ^ x) none ∙ by_one i)
    ∙ or_self i ∙ sym (unrotated i n lt)
left_as_or i (suc r) n h lt =
    let less : n - suc r < n = omega arith in
    let e : n ≡ suc r + (n - suc r) = omega arith in
    ap (λ x. bit_or ((i * 2 ^ suc r) % 2 ^ n) (i / 2 ^ x)) (mod-eq_of_lt less) ∙ rotated_as_or i (suc r) (n - suc r) n e lt

right_as_or : (i r n : ℕ) → r < n → i < 2 ^ n → bit_or (i / 2 ^ r) ((i * 2 ^ ((n - r) % n)) % 2 ^ n) ≡ (i * 2 ^ (n - r)) % 2 ^ n + (i * 2 ^ (n - r)) / 2 ^ n
right_as_or i zero n h lt =
    let none : (n - 0) % n ≡ 0 = ap (λ x. x % n) (sub-zero n) ∙ self_mod n h in
    ap₂ bit_or (by_one i) (ap (λ x. (i * 2 ^ x) % 2 ^ n) none ∙ ap (λ x. x % 2 ^ n) (times_one i) ∙ mod-eq_of_lt lt)
    ∙ or_self i ∙ sym (ap (λ x. (i * 2 ^ x) % 2 ^ n + (i * 2 ^ x) / 2 ^ n) (sub-zero n) ∙ rotated_round i n)
right_as_or i (suc r) n h lt =
    let less : n - suc r < n = omega arith in
    let e : n ≡ (n - suc r) + suc r = omega arith in
    ap (λ x. bit_or (i / 2 ^ suc r) ((i * 2 ^ x) % 2 ^ n)) (mod-eq_of_lt less)
    ∙ or_comm (i / 2 ^ suc r) ((i * 2 ^ (n - suc r)) % 2 ^ n) ∙ rotated_as_or i (n - suc r) (suc r) n e lt

-- std's rotations are these
pub rotl_is : (w : Width) (i k : ℕ) → 0 < bits w → i < 2 ^ bits w → rotate_left w i k ≡ irotl w i k
rotl_is w i k h lt = left_as_or i (k % bits w) (bits w) (mod-lt k h) lt

pub rotr_is : (w : Width) (i k : ℕ) → 0 < bits w → i < 2 ^ bits w → rotate_right w i k ≡ irotr w i k
rotr_is w i k h lt = right_as_or i (k % bits w) (bits w) (mod-lt k h) lt

-- a quotient that is a signed number
pub in_range_fits : (w : Width) (q : ℤ) → hbits w ≡ bits w - 1 → FitsSigned w q → in_range w q ≡ number (cast_unsigned w q)
in_range_fits w (pos n) e f =
    let lt : n < 2 ^ (bits w - 1) = subst (λ h. n < 2 ^ h) e f.sfits in
    ap (λ b. if b then overflows else number n) (ne_eqb n (2 ^ (bits w - 1)) (λ q. lt_irrefl n (subst (λ m. n < m) (sym q) lt)))
in_range_fits w (negsuc n) e f = refl

negated : (n : ℕ) → mag (neg_ℤ (pos n)) ≡ n - 1
negated zero = refl
negated (suc n) = omega arith

-- a quotient is a signed number but for the least number by -1
pub quotient_fits : (w : Width) (x y : ℤ) → FitsSigned w x → FitsSigned w y → (cast_unsigned w y ≡ 2 ^ bits w - 1 → cast_unsigned w x ≡ 2 ^ hbits w → ⊥) → FitsSigned w (int_div x y)
quotient_fits w (pos a) (pos b) fx fy h = record { sfits = omega (arith, fx.sfits, div-le_self a b) }
quotient_fits w (pos a) (negsuc b) fx fy h = record { sfits = omega (arith, fx.sfits, div-le_self a (suc b), negated (a / suc b)) }
quotient_fits w (negsuc a) (pos b) fx fy h = record { sfits = omega (arith, fx.sfits, div-le_self (suc a) b, negated (suc a / b)) }
quotient_fits w (negsuc a) (negsuc zero) fx fy h = let k = h refl in record { sfits = omega (arith, fx.sfits, div-one (suc a), pow-bits w) }
quotient_fits w (negsuc a) (negsuc (suc b)) fx fy h = record { sfits = omega (arith, fx.sfits, div-lt_self {n = suc a} {k = suc (suc b)} (omega arith) (omega arith)) }

-- the signed quotient, where it is a signed number
pub div_s_is : (w : Width) (i j : ℕ) (a b : ℤ) → hbits w ≡ bits w - 1 → cast_signed w 0 ≡ pos 0 → a ≡ cast_signed w i → b ≡ cast_signed w j → (cast_unsigned w b ≡ 0 → ⊥) → FitsSigned w (int_div a b) → idiv_s w i j ≡ number (cast_unsigned w (int_div a b))
div_s_is w i zero a b e z ea eb ne f = absurd (ne (ap (cast_unsigned w) (eb ∙ z)))
div_s_is w i (suc j) a b e z ea eb ne f =
    let same : int_div a b ≡ int_div (cast_signed w i) (cast_signed w (suc j)) = ap₂ int_div ea eb in
    ap (in_range w) (sym same) ∙ in_range_fits w (int_div a b) e f

-- with a count that is reduced already
pub rotl_of_rest : (w : Width) (i k : ℕ) → 0 < bits w → i < 2 ^ bits w → rotate_left w i (k % bits w) ≡ irotl w i k
rotl_of_rest w i k h lt = rotl_is w i (k % bits w) h lt ∙ ap (rotated w i) (mod-mod k (bits w))

pub rotr_of_rest : (w : Width) (i k : ℕ) → 0 < bits w → i < 2 ^ bits w → rotate_right w i (k % bits w) ≡ irotr w i k
rotr_of_rest w i k h lt = rotr_is w i (k % bits w) h lt ∙ ap (λ r. rotated w i (bits w - r)) (mod-mod k (bits w))
