-- Shares sum to the budget, and each is a budget.
use Rattle.std.proofs.Common.{◌≡◌, ◌≢◌, ℕ, zero, suc, ◌+◌, ◌*◌, ◌/◌, ◌%◌, ◌<◌, ◌≤◌, ◌-◌, ◌^◌, Bool, true, false, refl, ap₂, ◌∙◌, arith}
use Rattle.std.specs.Prelude.{nat_eq, nat_lt, if◌then◌else◌}
use Rattle.std.proofs.lemmas.Bool.{eq-eqb, eqb-true, lt-ltb, ltb-true}
use Rattle.std.proofs.lemmas.Nat.{le-div, mod_below, div-add-mod'}
use Rattle.std.proofs.Math.Nat.{le-mul_of_pos_right}
use Rattle.mc_cmd.specs.declared.TheConstants.{BMIN}
use Rattle.mc_cmd.specs.Pack.{IsBudget}
use Rattle.mc_together.specs.Share.{rest_of_share, share_of, IsSharedBudget, sum_shares}

-- what is left over is in the sum once its program is
abbrev rest_below : ℕ → ℕ → ℕ → ℕ → ℕ
rest_below b n t k = if nat_lt (t % n) k then b % n else 0

rest_step : (b n t k : ℕ) → rest_below b n t k + rest_of_share b n t k ≡ rest_below b n t (suc k)
rest_step b n t k = go (nat_lt (t % n) k) refl (nat_eq k (t % n)) refl (nat_lt (t % n) (suc k)) refl
  where
    go : (x : Bool) → nat_lt (t % n) k ≡ x → (y : Bool) → nat_eq k (t % n) ≡ y → (z : Bool) → nat_lt (t % n) (suc k) ≡ z → (if x then b % n else 0) + (if y then b % n else 0) ≡ (if z then b % n else 0)
    go true e true f z g = let l = ltb-true _ _ e in let s : k ≡ t % n = eqb-true k (t % n) f in absurd (omega arith)
    go true e false f true g = omega arith
    go true e false f false g = let l = ltb-true _ _ e in let h : nat_lt (t % n) (suc k) ≡ true = lt-ltb _ _ (omega arith) in absurd cc
    go false e true f true g = omega arith
    go false e true f false g = let s : k ≡ t % n = eqb-true k (t % n) f in let h : nat_lt (t % n) (suc k) ≡ true = lt-ltb _ _ (omega arith) in absurd cc
    go false e false f true g =
        let l = ltb-true _ _ g in
        let n' : k ≢ t % n = λ s. let h : nat_eq k (t % n) ≡ true = eq-eqb k (t % n) s in cc in
        let m : nat_lt (t % n) k ≡ true = lt-ltb _ _ (below l n') in
        absurd cc
      where
        below : t % n < suc k → k ≢ t % n → t % n < k
        below l d = omega (arith, l, d)
    go false e false f false g = refl

none_below : (b n t : ℕ) → rest_below b n t zero ≡ 0
none_below b n t = go (nat_lt (t % n) 0) refl
  where
    go : (x : Bool) → nat_lt (t % n) 0 ≡ x → (if x then b % n else 0) ≡ 0
    go true e = let l = ltb-true _ _ e in absurd (omega arith)
    go false e = refl

sum_is : (b n t k : ℕ) → sum_shares b n t k ≡ (k * (b / n)) + rest_below b n t k
sum_is b n t zero = let z = none_below b n t in omega (arith, z)
sum_is b n t (suc k) =
    let ih = sum_is b n t k in
    let r = rest_step b n t k in
    let m = Rattle.std.proofs.Math.Nat.suc-mul k (b / n) in
    omega (arith, ih, r, m)

pub shares_sum : (b n t : ℕ) → 0 < n → sum_shares b n t n ≡ b
shares_sum b n t h =
    let l : nat_lt (t % n) n ≡ true = lt-ltb _ _ (mod_below t n h) in
    let c = Rattle.std.proofs.Math.Nat.mul_comm n (b / n) in
    sum_is b n t n ∙ ap₂ (λ x y. x + (if y then b % n else 0)) c l ∙ div-add-mod' b n

pub share_budget : (b n t i : ℕ) → 0 < n → IsSharedBudget n b → IsBudget (share_of b n t i)
share_budget b n t i h s = go (nat_eq i (t % n))
  where
    go : (x : Bool) → (BMIN ≤ (b / n) + (if x then b % n else 0)) × ((b / n) + (if x then b % n else 0) ≤ 2 ^ 31 - 1)
    go true = let l = le-div BMIN b n h s.0 in let d = div-add-mod' b n in let m = le-mul_of_pos_right {m = n} (b / n) h in (omega (arith, l), omega (arith, d, m, s.1))
    go false = let l = le-div BMIN b n h s.0 in let d = div-add-mod' b n in let m = le-mul_of_pos_right {m = n} (b / n) h in (omega (arith, l), omega (arith, d, m, s.1))
