-- The rest of a word by a power of two, as the lines make it of the word's score.
use Rattle.std.proofs.Common.{◌≡◌, ℕ, zero, suc, ◌+◌, ◌-◌, ◌*◌, ◌%◌, ◌^◌, ◌<◌, ◌≤◌, ℤ, pos, negsuc, ◌-ℤ◌, Some, unwrap_or, Bool, true, false, nat_lt, arith, sym, ap, ◌∙◌, subst, ⊎_elim, if◌then◌else◌, mod-lt, mod-eq_of_lt, zero-le}
use Rattle.std.proofs.Math.Nat.{add-mod-mod, mod-add-mod, mod-eq-sub-mod}
use Rattle.std.proofs.lemmas.Bool.{cases_lt, le-leb, lt-ltb}
use Rattle.std.proofs.lemmas.Int.{ints}
use Rattle.std.proofs.lemmas.Nat.{pow_pos, pow_below, pow-add, mod-mul-add}
use Rattle.mc_cmd.specs.Command.{up_to}
use Rattle.mc_cmd.specs.World.{wrapped, is_in, rest_by}
use Rattle.cc_line.proofs.Words.{score, by_sign, low_score, unwrapped_pos}
use Rattle.cc_line.proofs.Rests.{rest_pp, rest_np}

-- ---- the bits of a word that is counted from the highest down

-- a number of a sum of two rests by b that leaves the highest rest
highest : (b x : ℕ) → 0 < b → x ≤ b + b - 2 → x % b ≡ b - 1 → x ≡ b - 1
highest b x h l e =
    ⊎_elim (λ low. sym (mod-eq_of_lt low) ∙ e)
    (λ high.
    let s : x % b ≡ x - b = mod-eq-sub-mod high ∙ mod-eq_of_lt (let y : x - b < b = omega arith in y) in
    omega arith)
    (cases_lt x b)

whole_rest : (d b : ℕ) → 0 < d → 0 < b → (d * b - 1) % b ≡ b - 1
whole_rest zero b h g = absurd (let z : 1 ≤ 0 = h in omega arith)
whole_rest (suc d) b h g =
    let e : suc d * b - 1 ≡ d * b + (b - 1) = omega arith in
    ap (λ x. x % b) e ∙ mod-mul-add d b (b - 1) (omega arith)

pub turned_rest : (p k : ℕ) → p < 32 → k < 4294967296 → (4294967295 - k) % 2 ^ p ≡ 2 ^ p - 1 - k % 2 ^ p
turned_rest p k h g =
    let bp : 0 < 2 ^ p = pow_pos p in
    let parts : 32 - p + p ≡ 32 = omega arith in
    let whole : 2 ^ (32 - p) * 2 ^ p ≡ 4294967296 = sym (pow-add 2 (32 - p) p) ∙ ap (λ j. 2 ^ j) parts in
    let all : 4294967295 % 2 ^ p ≡ 2 ^ p - 1 = ap (λ x. (x - 1) % 2 ^ p) (sym whole) ∙ whole_rest (2 ^ (32 - p)) (2 ^ p) (pow_pos (32 - p)) bp in
    let sum : 4294967295 - k + k ≡ 4294967295 = omega arith in
    let both : ((4294967295 - k) % 2 ^ p + k % 2 ^ p) % 2 ^ p ≡ 2 ^ p - 1 =
    mod-add-mod (4294967295 - k) (2 ^ p) (k % 2 ^ p) ∙ add-mod-mod (4294967295 - k) k (2 ^ p) ∙ ap (λ x. x % 2 ^ p) sum ∙ all in
    let x : (4294967295 - k) % 2 ^ p < 2 ^ p = mod-lt (4294967295 - k) bp in
    let y : k % 2 ^ p < 2 ^ p = mod-lt k bp in
    let is : (4294967295 - k) % 2 ^ p + k % 2 ^ p ≡ 2 ^ p - 1 = highest (2 ^ p) ((4294967295 - k) % 2 ^ p + k % 2 ^ p) bp (omega (arith, x, y)) both in
    omega (arith, is)

-- ---- as lines make it

-- `h %= #m`, and `if h in ..-1: h -= #m`
abbrev pub rest_value : Bool → ℕ → ℤ → ℤ
rest_value true p z = unwrap_or (rest_by z (score (2 ^ p))) z
rest_value false p z = if is_in (up_to (negsuc 0)) z then wrapped (z -ℤ score (2 ^ p)) else z

by_power : (p m : ℕ) → p < 31 → m < 4294967296 → rest_value true p (score m) ≡ score (m % 2 ^ p)
by_power p m h g =
    let small : 2 ^ p < 2147483648 = pow_below p 31 h in
    let bp : 0 < 2 ^ p = pow_pos p in
    let up : suc (2 ^ p - 1) ≡ 2 ^ p = omega arith in
    let rests : rest_by (score m) (pos (2 ^ p)) ≡ Some (pos (m % 2 ^ p)) =
    by_sign (λ m a. rest_by a (pos (2 ^ p)) ≡ Some (pos (m % 2 ^ p)))
    (λ m q. subst (λ x. rest_by (pos m) (pos x) ≡ Some (pos (m % x))) up (rest_pp m (2 ^ p - 1)))
    (λ k q.
    let y : k % 2 ^ p < 2 ^ p = mod-lt k bp in
    subst (λ x. rest_by (negsuc k) (pos x) ≡ Some (pos (2 ^ p - 1 - k % x))) up (rest_np k (2 ^ p - 1))
    ∙ ap (λ x. Some (pos x)) (sym (turned_rest p k (omega arith) (omega arith))))
    m g
    in
    let r : m % 2 ^ p < 2 ^ p = mod-lt m bp in
    ap (λ y. unwrap_or (rest_by (score m) y) (score m)) (low_score (2 ^ p) small)
    ∙ ap (λ o. unwrap_or o (score m)) rests
    ∙ sym (low_score (m % 2 ^ p) (omega (arith, r, small)))

by_sign_bit : (m : ℕ) → m < 4294967296 → rest_value false 31 (score m) ≡ score (m % 2147483648)
by_sign_bit = by_sign (λ m a. rest_value false 31 a ≡ score (m % 2147483648))
    (λ m h. sym (low_score m h) ∙ ap score (sym (mod-eq_of_lt h)))
    (λ k h.
    let e : negsuc k -ℤ negsuc 2147483647 ≡ pos (2147483647 - k) = omega (arith, ints) in
    let r : (4294967295 - k) % 2147483648 ≡ 2147483647 - k = omega arith in
    ap (λ b. if b then wrapped (negsuc k -ℤ negsuc 2147483647) else negsuc k) (le-leb 0 k zero-le)
    ∙ ap wrapped e ∙ unwrapped_pos (2147483647 - k) (omega arith)
    ∙ sym (low_score (2147483647 - k) (omega arith)) ∙ ap score (sym r))

pub rest_is : (p m : ℕ) → p < 32 → m < 4294967296 → rest_value (nat_lt p 31) p (score m) ≡ score (m % 2 ^ p)
rest_is p m h g =
    ⊎_elim (λ low. ap (λ b. rest_value b p (score m)) (lt-ltb p 31 low) ∙ by_power p m low g)
    (λ high.
    let e : 31 ≡ p = omega arith in
    subst (λ p. rest_value (nat_lt p 31) p (score m) ≡ score (m % 2 ^ p)) e (by_sign_bit m g))
    (cases_lt p 31)
