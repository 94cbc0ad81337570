-- Comparisons without sign with a constant: the lines leave what the operators give.
use Rattle.std.proofs.Common.{◌≡◌, ℕ, ◌-◌, ◌<◌, ◌≤◌, pos, negsuc, Some, Bool, true, false, not, ◌&&◌, nat_le, nat_lt, refl, sym, ap, ap₂, ◌∙◌, arith, zero-le, ⊎_elim, if◌then◌else◌}
use Rattle.std.proofs.lemmas.Bool.{cases_lt, le-leb, lt-leb, lt-ltb, le-ltb}
use Rattle.mc_cmd.specs.Command.{between}
use Rattle.mc_cmd.specs.World.{is_in}
use Rattle.cc_line.specs.State.{State}
use Rattle.cc_line.proofs.SettleLemmas.{with_one}
use Rattle.cc_line.proofs.Words.{score, by_sign, high_score}
use Rattle.cc_known.specs.Compare.{below_steps, not_below_steps}
use Rattle.cc_known.proofs.Leading.{Leaves}

-- ---- the ranges

low_is : (n : ℕ) → 0 < n → n ≤ 2147483648 → (m : ℕ) → m < 4294967296 → is_in (between (pos 0) (pos (n - 1))) (score m) ≡ nat_lt m n
low_is n p h = by_sign (λ m a. is_in (between (pos 0) (pos (n - 1))) a ≡ nat_lt m n)
    (λ m q. ⊎_elim
    (λ l. ap₂ (λ x y. x && y) (le-leb 0 m zero-le) (le-leb m (n - 1) (omega arith)) ∙ sym (lt-ltb m n l))
    (λ g. ap₂ (λ x y. x && y) (le-leb 0 m zero-le) (lt-leb m (n - 1) (omega arith)) ∙ sym (le-ltb m n g))
    (cases_lt m n))
    (λ k q. sym (le-ltb (4294967295 - k) n (omega arith)))

high_is : (n : ℕ) → 2147483648 < n → n < 4294967296 → (m : ℕ) → m < 4294967296 → is_in (between (score n) (negsuc 0)) (score m) ≡ nat_le n m
high_is n p h m f =
    let back : 4294967295 - (4294967295 - n) ≡ n = omega arith in
    let neg : score n ≡ negsuc (4294967295 - n) = ap score (sym back) ∙ high_score (4294967295 - n) (omega arith) in
    ap (λ z. is_in (between z (negsuc 0)) (score m)) neg
    ∙ by_sign (λ m a. is_in (between (negsuc (4294967295 - n)) (negsuc 0)) a ≡ nat_le n m)
    (λ m q. sym (lt-leb n m (omega arith)))
    (λ k q. ⊎_elim
    (λ l. ap₂ (λ x y. x && y) (lt-leb k (4294967295 - n) l) (le-leb 0 k zero-le) ∙ sym (lt-leb n (4294967295 - k) (omega arith)))
    (λ g. ap₂ (λ x y. x && y) (le-leb k (4294967295 - n) g) (le-leb 0 k zero-le) ∙ sym (le-leb n (4294967295 - k) (omega arith)))
    (cases_lt (4294967295 - n) k))
    m f

other_way : (m n : ℕ) → not (nat_lt m n) ≡ nat_le n m
other_way m n = ⊎_elim (λ l. ap not (lt-ltb m n l) ∙ sym (lt-leb n m l)) (λ g. ap not (le-ltb m n g) ∙ sym (le-leb n m g)) (cases_lt m n)

and_back : (m n : ℕ) → not (nat_le n m) ≡ nat_lt m n
and_back m n = ⊎_elim (λ l. ap not (lt-leb n m l) ∙ sym (lt-ltb m n l)) (λ g. ap not (le-leb n m g) ∙ sym (le-ltb m n g)) (cases_lt m n)

chosen : (b : Bool) → (if b then pos 1 else pos 0) ≡ score (if b then 1 else 0)
chosen true = refl
chosen false = refl

-- ---- the lines

pub below_leaves : (m n : ℕ) → m < 4294967296 → 0 < n → n < 4294967296 → (s : State) → Leaves (below_steps n) (with_one s (score m)) (score (if nat_lt m n then 1 else 0))
below_leaves m n h p g s = ⊎_elim
    (λ high. by false (le_is high) (ap not (high_is n high g m h) ∙ and_back m n))
    (λ low. by true (lt_is low) (low_is n p low m h))
    (cases_lt 2147483648 n)
  where
    le_is : 2147483648 < n → nat_le n 2147483648 ≡ false
    le_is l = lt-leb n 2147483648 l

    lt_is : n ≤ 2147483648 → nat_le n 2147483648 ≡ true
    lt_is l = le-leb n 2147483648 l

    by : (b : Bool) → nat_le n 2147483648 ≡ b → (if b then is_in (between (pos 0) (pos (n - 1))) (score m) else not (is_in (between (score n) (negsuc 0)) (score m))) ≡ nat_lt m n
        → Leaves (below_steps n) (with_one s (score m)) (score (if nat_lt m n then 1 else 0))
    by true e f = rw e (record { finds = refl; left = ap (λ b. Some (if b then pos 1 else pos 0)) f ∙ ap Some (chosen (nat_lt m n)) })
    by false e f = rw e (record { finds = refl; left = ap (λ b. Some (if b then pos 1 else pos 0)) f ∙ ap Some (chosen (nat_lt m n)) })

pub not_below_leaves : (m n : ℕ) → m < 4294967296 → 0 < n → n < 4294967296 → (s : State) → Leaves (not_below_steps n) (with_one s (score m)) (score (if nat_le n m then 1 else 0))
not_below_leaves m n h p g s = ⊎_elim
    (λ high. by false (lt-leb n 2147483648 high) (high_is n high g m h))
    (λ low. by true (le-leb n 2147483648 low) (ap not (low_is n p low m h) ∙ other_way m n))
    (cases_lt 2147483648 n)
  where
    by : (b : Bool) → nat_le n 2147483648 ≡ b → (if b then not (is_in (between (pos 0) (pos (n - 1))) (score m)) else is_in (between (score n) (negsuc 0)) (score m)) ≡ nat_le n m
        → Leaves (not_below_steps n) (with_one s (score m)) (score (if nat_le n m then 1 else 0))
    by true e f = rw e (record { finds = refl; left = ap (λ b. Some (if b then pos 1 else pos 0)) f ∙ ap Some (chosen (nat_le n m)) })
    by false e f = rw e (record { finds = refl; left = ap (λ b. Some (if b then pos 1 else pos 0)) f ∙ ap Some (chosen (nat_le n m)) })
