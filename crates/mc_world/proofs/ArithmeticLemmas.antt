-- Quotients and remainders of scores, as std's.
use Rattle.std.proofs.Common.{◌≡◌, ℕ, zero, suc, ℤ, pos, negsuc, Some, refl, sym, ap, ◌∙◌, arith}
use Rattle.std.specs.Prelude.{◌/◌, ◌+ℤ◌, ◌-ℤ◌, ◌*ℤ◌, ◌<ℤ◌, neg_ℤ}
use Rattle.std.specs.Int.{w32, w64, int_div_euclid, int_rem_euclid, int_wrap}
use Rattle.std.proofs.lemmas.Int.{ints, to_z-of_z}
use Rattle.std.proofs.Math.Nat.{div-le_self}
use Rattle.std.proofs.lemmas.Nat.{div-add-mod'}
use mir.Val.{SFits, to_z, of_z}
use Rattle.mc_cmd.specs.World.{floor_by, quotient, rest_by, wrapped}

-- rounding towards minus infinity
pub floor_is : (z : ℤ) (n : ℕ) → int_div_euclid z (pos n) ≡ floor_by z n
floor_is (pos a) n = refl
floor_is (negsuc a) n = refl

-- what is left above the greatest multiple
pub rest_is : (z : ℤ) (n : ℕ) → z -ℤ (pos (suc n) *ℤ floor_by z (suc n)) ≡ int_rem_euclid z (pos (suc n))
rest_is (pos a) n = let d = div-add-mod' a (suc n) in omega (arith, ints)
rest_is (negsuc a) n = let d = div-add-mod' a (suc n) in omega (arith, ints)

zero-minus : (a : ℤ) → pos 0 -ℤ a ≡ neg_ℤ a
zero-minus a = omega (arith, ints)

-- division by a number below 0
pub negative_quotient : (a b : ℤ) → b <ℤ pos 0 → quotient a b ≡ Some (wrapped (int_div_euclid (neg_ℤ a) (neg_ℤ b)))
negative_quotient a (pos n) h = let no : ⊥ = omega (arith, ints) in absurd no
negative_quotient a (negsuc k) h = ap (λ z. Some (wrapped z)) (ap (λ z. floor_by z (suc k)) (zero-minus a) ∙ sym (floor_is (neg_ℤ a) (suc k)))

pub negative_rest : (a b : ℤ) → b <ℤ pos 0 → rest_by a b ≡ Some (neg_ℤ (int_rem_euclid (neg_ℤ a) (neg_ℤ b)))
negative_rest a (pos n) h = let no : ⊥ = omega (arith, ints) in absurd no
negative_rest a (negsuc k) h =
    let p : ℤ = pos (suc k) *ℤ floor_by (neg_ℤ a) (suc k) in
    let r = rest_is (neg_ℤ a) k in
    ap (λ z. Some (a +ℤ (pos (suc k) *ℤ floor_by z (suc k)))) (zero-minus a) ∙ ap Some (left_over a p _ r)
  where
    left_over : (a p r : ℤ) → neg_ℤ a -ℤ p ≡ r → a +ℤ p ≡ neg_ℤ r
    left_over a p r e = omega (arith, ints)

-- the one quotient that wraps
pub wrapped_top : wrapped (pos 2147483648) ≡ negsuc 2147483647
unfolding int_wrap
wrapped_top = refl

-- no other does
pub quotient_fits : (a b : ℤ) → SFits w32 a → b <ℤ pos 0 → (int_div_euclid (neg_ℤ a) (neg_ℤ b) ≡ pos 2147483648 → ⊥) → SFits w32 (int_div_euclid (neg_ℤ a) (neg_ℤ b))
quotient_fits a (pos m) f h other = let no : ⊥ = omega (arith, ints) in absurd no
quotient_fits (pos zero) (negsuc k) f h other = let d = div-le_self 0 (suc k) in record { sfits = omega arith }
quotient_fits (pos (suc n)) (negsuc k) f h other = let d = div-le_self n (suc k) in let g = f.sfits in record { sfits = omega arith }
quotient_fits (negsuc n) (negsuc k) f h other =
    let d = div-le_self (suc n) (suc k) in
    let g = f.sfits in
    let differs : suc n / suc k ≡ 2147483648 → ⊥ = λ e. other (ap pos e) in
    record { sfits = omega arith }

-- numbers of 32 bits among those of 64, and back
wide : (z : ℤ) → SFits w32 z → SFits w64 z
wide z f = let g = f.sfits in record { sfits = omega arith }

neg_wide : (z : ℤ) → SFits w32 z → SFits w64 (neg_ℤ z)
neg_wide (pos zero) f = record { sfits = omega arith }
neg_wide (pos (suc n)) f = let g = f.sfits in record { sfits = omega arith }
neg_wide (negsuc n) f = let g = f.sfits in record { sfits = omega arith }

pub narrowed : (z : ℤ) → SFits w32 z → to_z w32 (of_z w32 (to_z w64 (of_z w64 z))) ≡ z
narrowed z f = ap (λ y. to_z w32 (of_z w32 y)) (to_z-of_z w64 z (wide z f)) ∙ to_z-of_z w32 z f

pub negated : (z : ℤ) → SFits w32 z → to_z w64 (of_z w64 (pos 0 -ℤ to_z w64 (of_z w64 (to_z w32 (of_z w32 z))))) ≡ neg_ℤ z
negated z f =
    ap (λ y. to_z w64 (of_z w64 (pos 0 -ℤ to_z w64 (of_z w64 y)))) (to_z-of_z w32 z f)
    ∙ ap (λ y. to_z w64 (of_z w64 (pos 0 -ℤ y))) (to_z-of_z w64 z (wide z f))
    ∙ ap (λ y. to_z w64 (of_z w64 y)) (zero-minus z)
    ∙ to_z-of_z w64 (neg_ℤ z) (neg_wide z f)

rest_fits : (x d r : ℤ) → r ≡ int_rem_euclid x d → SFits w32 r → SFits w32 (neg_ℤ r)
rest_fits x d (pos zero) e f = f
rest_fits x d (pos (suc n)) e f = let g = f.sfits in record { sfits = omega arith }
rest_fits (pos a) d (negsuc n) e f = absurd cc
rest_fits (negsuc a) d (negsuc n) e f = absurd cc

pub rest_negated : (x d r : ℤ) → r ≡ int_rem_euclid x d → SFits w32 r → to_z w32 (of_z w32 (pos 0 -ℤ to_z w32 (of_z w32 (to_z w64 (of_z w64 r))))) ≡ neg_ℤ r
rest_negated x d r e f =
    ap (λ y. to_z w32 (of_z w32 (pos 0 -ℤ y))) (narrowed r f) ∙ ap (λ y. to_z w32 (of_z w32 y)) (zero-minus r) ∙ to_z-of_z w32 (neg_ℤ r) (rest_fits x d r e f)
