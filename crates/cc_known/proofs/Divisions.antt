-- Divisions by a constant: the lines leave what the operators give.
use Rattle.std.proofs.Common.{◌≡◌, ℕ, zero, suc, ◌+◌, ◌-◌, ◌*◌, ◌/◌, ◌%◌, ◌^◌, ◌<◌, ◌≤◌, [], ◌∷◌, ℤ, pos, negsuc, ◌+ℤ◌, ◌-ℤ◌, neg_ℤ, Some, unwrap_or, Bool, true, false, ◌&&◌, nat_eq, int_div, int_rem, FitsSigned, refl, sym, ap, ◌∙◌, subst, arith, mod-lt, div-le_self, div-add-mod', zero-lt-suc, zero-le, option_and_then, ⊎_elim, if◌then◌else◌, codes}
use Rattle.std.specs.Int.{w32, cast_unsigned}
use Rattle.std.proofs.lemmas.Bool.{cases_lt, le-leb}
use Rattle.std.proofs.lemmas.Int.{ints, of_z-to_z, to_z-of_z}
use Rattle.std.proofs.lemmas.Nat.{div-mul-add}
use Rattle.std.proofs.lemmas.Option.{same_Some}
use Rattle.mc_cmd.specs.Command.{from, up_to}
use Rattle.mc_cmd.specs.World.{wrapped, is_in, floor_by, rest_by}
use Rattle.mc_nbt.proofs.TestLemmas.{eq_same}
use Rattle.wm_ast.specs.Integer.{number, idiv_s, irem_s}
use Rattle.wm_ast.proofs.IntegerLaws.{quotient_fits, div_s_is as quotient_is}
use lib.Signed.{mag_rem}
use native.Mathlib.Nat.{div-eq_of_lt}
use Rattle.cc_line.specs.State.{State}
use Rattle.cc_line.proofs.SettleLemmas.{with_one}
use Rattle.cc_line.proofs.Rests.{rest_np, rest_pp}
use Rattle.cc_line.proofs.Words.{score, low_score, unwrapped_pos, unwrapped_neg, fits_score}
use Rattle.cc_i32.proofs.Dividing.{rem_s_is, less_divisor}
use Rattle.cc_bits.specs.Line.{sets}
use Rattle.cc_known.specs.Mask.{rest_steps}
use Rattle.cc_known.specs.Divide.{div_s_steps, rem_s_steps, rem_u_steps}
use Rattle.cc_known.proofs.Leading.{Leaves}
use Rattle.cc_known.proofs.Masks.{rest_leaves}

-- ---- the rest by a power of two

pub rem_u_leaves : (m k : ℕ) → m < 4294967296 → k < 32 → (s : State) → Leaves (rem_u_steps k) (with_one s (score m)) (score (m % 2 ^ k))
rem_u_leaves m k h g s = go (nat_eq k 0) refl
  where
    go : (b : Bool) → nat_eq k 0 ≡ b → Leaves (if b then sets (codes "#a") (pos 0) ∷ [] else rest_steps k (codes "#a")) (with_one s (score m)) (score (m % 2 ^ k))
    go true e = record { finds = refl; left = ap (λ x. Some (score x)) ((let y : 0 ≡ m % 1 = omega arith in y) ∙ ap (λ j. m % 2 ^ j) (sym (eq_same k 0 e))) }
    go false e = rest_leaves k m g h s

-- ---- the quotient with sign

-- one less than the divisor more where the number is below 0
abbrev lifted : ℕ → ℤ → ℤ
lifted n z = if is_in (up_to (negsuc 0)) z then wrapped (z +ℤ pos (n - 1)) else z

quotient_low : (y a : ℕ) → a < 2147483648 → wrapped (floor_by (lifted (suc y) (pos a)) (suc y)) ≡ int_div (pos a) (pos (suc y))
quotient_low y a h = let le : a / suc y ≤ a = div-le_self a (suc y) in unwrapped_pos (a / suc y) (omega (arith, le))

quotient_high : (y k : ℕ) → suc y < 2147483648 → k < 2147483648 → wrapped (floor_by (lifted (suc y) (negsuc k)) (suc y)) ≡ int_div (negsuc k) (pos (suc y))
quotient_high y k g h =
    ap (λ b. wrapped (floor_by (if b then wrapped (negsuc k +ℤ pos (suc y - 1)) else negsuc k) (suc y))) (le-leb 0 k zero-le)
    ∙ ⊎_elim
    (λ l.
    let e : negsuc k +ℤ pos (suc y - 1) ≡ pos (y - suc k) = omega (arith, ints) in
    let z : (y - suc k) / suc y ≡ 0 = div-eq_of_lt (let q : y - suc k < suc y = omega arith in q) in
    let w : suc k / suc y ≡ 0 = div-eq_of_lt (let q : suc k < suc y = omega arith in q) in
    ap (λ x. wrapped (floor_by (wrapped x) (suc y))) e
    ∙ ap (λ x. wrapped (floor_by x (suc y))) (unwrapped_pos (y - suc k) (omega arith))
    ∙ ap (λ x. wrapped (pos x)) z ∙ unwrapped_pos 0 (omega arith) ∙ ap (λ x. neg_ℤ (pos x)) (sym w))
    (λ l.
    let e : negsuc k +ℤ pos (suc y - 1) ≡ negsuc (k - y) = omega (arith, ints) in
    let split : (k - y) / suc y * suc y + (k - y) % suc y ≡ k - y = div-add-mod' (k - y) (suc y) in
    let less : (k - y) % suc y < suc y = mod-lt (k - y) (zero-lt-suc y) in
    let q : suc k ≡ suc ((k - y) / suc y) * suc y + (k - y) % suc y = omega (arith, split) in
    let w : suc k / suc y ≡ suc ((k - y) / suc y) = ap (λ x. x / suc y) q ∙ div-mul-add (suc ((k - y) / suc y)) (suc y) ((k - y) % suc y) less in
    let le : (k - y) / suc y ≤ k - y = div-le_self (k - y) (suc y) in
    ap (λ x. wrapped (floor_by (wrapped x) (suc y))) e
    ∙ ap (λ x. wrapped (floor_by x (suc y))) (unwrapped_neg (k - y) (omega arith))
    ∙ unwrapped_neg ((k - y) / suc y) (omega (arith, le)) ∙ ap (λ x. neg_ℤ (pos x)) (sym w))
    (cases_lt k y)

quotient_of : (z : ℤ) (y : ℕ) → FitsSigned w32 z → suc y < 2147483648 → wrapped (floor_by (lifted (suc y) z) (suc y)) ≡ int_div z (pos (suc y))
quotient_of (pos a) y f h = quotient_low y a f.sfits
quotient_of (negsuc k) y f h = quotient_high y k h f.sfits

-- the word of the quotient, and of the rest
abbrev pub quotient_word : ℕ → ℕ → ℕ
quotient_word m n = cast_unsigned w32 (int_div (score m) (pos n))

abbrev pub rest_word : ℕ → ℕ → ℕ
rest_word m n = cast_unsigned w32 (int_rem (score m) (pos n))

quotient_in : (m n : ℕ) → m < 4294967296 → n < 2147483648 → FitsSigned w32 (int_div (score m) (score n))
quotient_in m n h g = quotient_fits w32 (score m) (score n) (fits_score m h) (fits_score n (omega arith)) (λ p q. let e : n ≡ 4294967295 = sym (of_z-to_z w32 n (omega arith)) ∙ p in absurd (omega (arith, e, g)))

pub div_s_leaves : (m n : ℕ) → m < 4294967296 → 0 < n → n < 2147483648 → (s : State) → Leaves (div_s_steps n) (with_one s (score m)) (score (quotient_word m n))
div_s_leaves m zero h p g s = absurd (omega (arith, p))
div_s_leaves m (suc y) h p g s =
    let low : score (suc y) ≡ pos (suc y) = low_score (suc y) g in
    let fits : FitsSigned w32 (int_div (score m) (pos (suc y))) = subst (λ z. FitsSigned w32 (int_div (score m) z)) low (quotient_in m (suc y) h g) in
    record { finds = refl; left = ap Some (quotient_of (score m) y (fits_score m h) g ∙ sym (to_z-of_z w32 (int_div (score m) (pos (suc y))) fits)) }

pub div_s_gives : (m n : ℕ) → m < 4294967296 → 0 < n → n < 2147483648 → idiv_s w32 m n ≡ number (quotient_word m n)
div_s_gives m n h p g =
    let low : score n ≡ pos n = low_score n g in
    quotient_is w32 m n (score m) (score n) refl refl refl refl (λ z. let e : n ≡ 0 = sym (of_z-to_z w32 n (omega arith)) ∙ z in absurd (omega (arith, p, e))) (quotient_in m n h g)
    ∙ ap (λ z. number (cast_unsigned w32 (int_div (score m) z))) low

-- ---- the rest with sign

abbrev less_where : Bool → ℤ → ℕ → ℤ
less_where b r n = if b && is_in (from (pos 1)) r then wrapped (r -ℤ pos n) else r

rest_of : (z : ℤ) (y : ℕ) → FitsSigned w32 z → suc y < 2147483648 → less_where (is_in (up_to (negsuc 0)) z) (unwrap_or (rest_by z (pos (suc y))) z) (suc y) ≡ int_rem z (pos (suc y))
rest_of (pos a) y f h = ap (λ o. unwrap_or o (pos a)) (rest_pp a y)
rest_of (negsuc k) y f h =
    let g : FitsSigned w32 (pos (suc y)) = record { sfits = h } in
    let e : less_divisor (negsuc k) (pos (suc y)) (pos (y - k % suc y)) ≡ int_rem (negsuc k) (pos (suc y)) =
    same_Some _ _ (sym (ap (λ o. option_and_then (λ m. Some (less_divisor (negsuc k) (pos (suc y)) m)) o) (rest_np k y)) ∙ rem_s_is (negsuc k) (pos (suc y)) f g (λ z. absurd cc))
    in
    ap (λ o. less_where (is_in (up_to (negsuc 0)) (negsuc k)) (unwrap_or o (negsuc k)) (suc y)) (rest_np k y) ∙ e

pub rem_s_leaves : (m n : ℕ) → m < 4294967296 → 0 < n → n < 2147483648 → (s : State) → Leaves (rem_s_steps n) (with_one s (score m)) (score (rest_word m n))
rem_s_leaves m zero h p g s = absurd (omega (arith, p))
rem_s_leaves m (suc y) h p g s =
    let fm : FitsSigned w32 (score m) = fits_score m h in
    let fits : FitsSigned w32 (int_rem (score m) (pos (suc y))) = record { sfits = omega (arith, mag_rem (score m) (pos (suc y)), fm.sfits) } in
    record { finds = refl; left = ap Some (rest_of (score m) y fm g ∙ sym (to_z-of_z w32 (int_rem (score m) (pos (suc y))) fits)) }

pub rem_s_gives : (m n : ℕ) → 0 < n → n < 2147483648 → irem_s w32 m n ≡ number (rest_word m n)
rem_s_gives m zero p g = absurd (omega (arith, p))
rem_s_gives m (suc y) p g = ap (λ z. number (cast_unsigned w32 (int_rem (score m) z))) (low_score (suc y) g)
