-- Shifts and rotations by a constant: the lines leave what the operators give.
use Rattle.std.proofs.Common.{◌≡◌, ℕ, suc, ◌+◌, ◌-◌, ◌*◌, ◌/◌, ◌%◌, ◌^◌, ◌<◌, ◌≤◌, List, [], ◌∷◌, ◌++◌, ℤ, pos, negsuc, ◌+ℤ◌, ◌*ℤ◌, Some, unwrap_or, Bool, true, false, nat_eq, nat_lt, refl, sym, ap, ap₂, ◌∙◌, subst, arith, mod-lt, mod-eq_of_lt, div-le_self, div-add-mod', zero-le, if◌then◌else◌, codes}
use Rattle.std.specs.Int.{w32}
use Rattle.std.proofs.lemmas.Bool.{le-leb}
use Rattle.std.proofs.lemmas.Nat.{div-mul-add, pow_pos, pow_below, pow-add, shr_below, shr-shr}
use Rattle.mc_cmd.specs.Command.{add, assign, divide, from, multiply, up_to}
use Rattle.mc_cmd.specs.World.{wrapped, is_in, floor_by, quotient}
use Rattle.mc_nbt.proofs.TestLemmas.{eq_same}
use Rattle.wm_ast.specs.Integer.{ishr_s, rotated}
use Rattle.cc_line.specs.State.{State}
use Rattle.cc_line.specs.Step.{Step}
use Rattle.cc_line.proofs.SettleLemmas.{pinned, settled, with_one}
use Rattle.cc_line.proofs.Words.{score, by_sign, low_score, high_score, sum_of, product_of, unwrapped_pos, unwrapped_neg}
use Rattle.cc_bits.specs.Line.{makes, sets}
use Rattle.cc_bits.proofs.ShiftFacts.{rotation_is, shr_s_by, shr_s_is}
use Rattle.cc_known.specs.Mask.{rest_line, rest_steps, sets_power}
use Rattle.cc_known.specs.Shift.{rotl_steps, shl_steps, shr_s_steps, shr_u_steps, sign_bit_steps}
use Rattle.cc_known.proofs.Leading.{Leaves, leaves_none}
use Rattle.cc_known.proofs.Remainders.{rest_value, rest_is, turned_rest}

-- ---- to the left

by_none : (m k : ℕ) → m < 4294967296 → k ≡ 0 → m ≡ (m * 2 ^ k) % 4294967296
by_none m k h e = let y : m ≡ (m * 1) % 4294967296 = omega arith in y ∙ ap (λ j. (m * 2 ^ j) % 4294967296) (sym e)

pub shl_leaves : (m k : ℕ) → m < 4294967296 → k < 32 → (s : State) → Leaves (shl_steps k) (with_one s (score m)) (score ((m * 2 ^ k) % 4294967296))
shl_leaves m k h g s = go (nat_eq k 0) refl
  where
    go : (b : Bool) → nat_eq k 0 ≡ b → Leaves (if b then [] else sets_power k ∷ makes (codes "#a") multiply (codes "#m") ∷ []) (with_one s (score m)) (score ((m * 2 ^ k) % 4294967296))
    go true e = leaves_none (with_one s (score m)) _ (ap (λ x. Some (score x)) (by_none m k h (eq_same k 0 e)))
    go false e = record { finds = refl; left = ap Some (product_of m (2 ^ k) h (pow_below k 32 g)) }

-- ---- to the right with the sign

by_power : (z : ℤ) (k : ℕ) → k < 31 → quotient z (score (2 ^ k)) ≡ Some (wrapped (floor_by z (2 ^ k)))
by_power z k h =
    let p : 0 < 2 ^ k = pow_pos k in
    let up : suc (2 ^ k - 1) ≡ 2 ^ k = omega (arith, p) in
    ap (quotient z) (low_score (2 ^ k) (pow_below k 31 h)) ∙ subst (λ x. quotient z (pos x) ≡ Some (wrapped (floor_by z x))) up refl

by_one : (m : ℕ) → m < 4294967296 → wrapped (floor_by (score m) 1) ≡ score m
by_one = by_sign (λ m a. wrapped (floor_by a 1) ≡ a)
    (λ m h. ap (λ x. wrapped (pos x)) (let e : m / 1 ≡ m = omega arith in e) ∙ unwrapped_pos m h)
    (λ k h. ap (λ x. wrapped (negsuc x)) (let e : k / 1 ≡ k = omega arith in e) ∙ unwrapped_neg k h)

pub shr_s_leaves : (m n : ℕ) → m < 4294967296 → (s : State) → Leaves (shr_s_steps (n % 32)) (with_one s (score m)) (score (ishr_s w32 m n))
shr_s_leaves m n h s = go (nat_eq (n % 32) 0) refl (nat_eq (n % 32) 31) refl
  where
    below : n % 32 < 32
    below = mod-lt n (omega arith)

    go : (z : Bool) → nat_eq (n % 32) 0 ≡ z → (b : Bool) → nat_eq (n % 32) 31 ≡ b
        → Leaves
        (if z then []
        else if b then sets_power 30 ∷ makes (codes "#a") divide (codes "#m") ∷ sets (codes "#m") (pos 2) ∷ makes (codes "#a") divide (codes "#m") ∷ []
        else sets_power (n % 32) ∷ makes (codes "#a") divide (codes "#m") ∷ [])
        (with_one s (score m)) (score (ishr_s w32 m n))
    go true e b d =
        let none : wrapped (floor_by (score m) 1) ≡ score (ishr_s w32 m n) = subst (λ j. wrapped (floor_by (score m) (2 ^ j)) ≡ score (ishr_s w32 m n)) (eq_same (n % 32) 0 e) (shr_s_by m n h) in
        leaves_none (with_one s (score m)) _ (ap Some (sym (by_one m h) ∙ none))
    go false e true d =
        let whole : 2 ^ 30 * 2 ≡ 2 ^ (n % 32) = ap (λ j. 2 ^ j) (sym (eq_same (n % 32) 31 d)) in
        record { finds = refl; left = ap Some (shr_s_is m n 30 2 h whole) }
    go false e false d =
        let small : n % 32 < 31 = (let y : nat_eq (n % 32) 31 ≡ false = d in grind (arith, below)) in
        record { finds = refl; left = ap (λ o. Some (unwrap_or o (score m))) (by_power (score m) (n % 32) small) ∙ ap Some (shr_s_by m n h) }

-- ---- to the right with zeros

-- the quotient rounded down, and its rest
abbrev pub fold_value : Bool → ℕ → ℤ → ℤ
fold_value b k z = rest_value b (32 - k) (unwrap_or (quotient z (score (2 ^ k))) z)

add_mul : (a b c : ℕ) → (a + b) * c ≡ a * c + b * c
add_mul a b c = omega arith

-- a word that is counted from the highest down, by a power of two
turned_quotient : (k j : ℕ) → k < 32 → j < 4294967296 → ((4294967295 - j) / 2 ^ k ≡ 2 ^ (32 - k) - 1 - j / 2 ^ k) × (j / 2 ^ k < 2 ^ (32 - k))
turned_quotient k j h g =
    let parts : 32 - k + k ≡ 32 = omega arith in
    let bp : 0 < 2 ^ k = pow_pos k in
    let rl : j % 2 ^ k < 2 ^ k = mod-lt j bp in
    let whole : 2 ^ (32 - k) * 2 ^ k ≡ 4294967296 = sym (pow-add 2 (32 - k) k) ∙ ap (λ i. 2 ^ i) parts in
    let ql : j / 2 ^ k < 2 ^ (32 - k) = shr_below j (32 - k) k (subst (λ i. j < 2 ^ i) (let c : 32 ≡ 32 - k + k = omega arith in c) g) in
    let split : j / 2 ^ k * 2 ^ k + j % 2 ^ k ≡ j = div-add-mod' j (2 ^ k) in
    let sum : (2 ^ (32 - k) - 1 - j / 2 ^ k) + (1 + j / 2 ^ k) ≡ 2 ^ (32 - k) = omega (arith, ql) in
    let dist : (2 ^ (32 - k) - 1 - j / 2 ^ k) * 2 ^ k + (1 + j / 2 ^ k) * 2 ^ k ≡ 4294967296 = sym (add_mul (2 ^ (32 - k) - 1 - j / 2 ^ k) (1 + j / 2 ^ k) (2 ^ k)) ∙ ap (λ y. y * 2 ^ k) sum ∙ whole in
    let one : (1 + j / 2 ^ k) * 2 ^ k ≡ 1 * 2 ^ k + j / 2 ^ k * 2 ^ k = add_mul 1 (j / 2 ^ k) (2 ^ k) in
    let is : 4294967295 - j ≡ (2 ^ (32 - k) - 1 - j / 2 ^ k) * 2 ^ k + (2 ^ k - 1 - j % 2 ^ k) = omega (arith, split, dist, one, rl) in
    (ap (λ y. y / 2 ^ k) is ∙ div-mul-add (2 ^ (32 - k) - 1 - j / 2 ^ k) (2 ^ k) (2 ^ k - 1 - j % 2 ^ k) (omega (arith, rl)), ql)

pub fold_is : (k m : ℕ) → 0 < k → k < 31 → m < 4294967296 → fold_value (nat_lt (32 - k) 31) k (score m) ≡ score (m / 2 ^ k)
fold_is k m p h g =
    let low : 32 - k < 32 = omega arith in
    ap (λ o. rest_value (nat_lt (32 - k) 31) (32 - k) (unwrap_or o (score m))) (by_power (score m) k h)
    ∙ by_sign (λ m a. rest_value (nat_lt (32 - k) 31) (32 - k) (wrapped (floor_by a (2 ^ k))) ≡ score (m / 2 ^ k))
    (λ m q.
    let le : m / 2 ^ k ≤ m = div-le_self m (2 ^ k) in
    let parts : 32 ≡ 32 - k + k = omega arith in
    let small : m / 2 ^ k < 2 ^ (32 - k) = shr_below m (32 - k) k (subst (λ i. m < 2 ^ i) parts (omega arith)) in
    ap (rest_value (nat_lt (32 - k) 31) (32 - k)) (unwrapped_pos (m / 2 ^ k) (omega (arith, le)) ∙ sym (low_score (m / 2 ^ k) (omega (arith, le))))
    ∙ rest_is (32 - k) (m / 2 ^ k) low (omega (arith, le)) ∙ ap score (mod-eq_of_lt small))
    (λ j q.
    let le : j / 2 ^ k ≤ j = div-le_self j (2 ^ k) in
    let t = turned_quotient k j (omega arith) (omega arith) in
    ap (rest_value (nat_lt (32 - k) 31) (32 - k)) (unwrapped_neg (j / 2 ^ k) (omega (arith, le)) ∙ sym (high_score (j / 2 ^ k) (omega (arith, le))))
    ∙ rest_is (32 - k) (4294967295 - j / 2 ^ k) low (omega arith)
    ∙ ap score (turned_rest (32 - k) (j / 2 ^ k) low (omega (arith, le)) ∙ ap (λ x. 2 ^ (32 - k) - 1 - x) (mod-eq_of_lt t.1) ∙ sym t.0))
    m g

-- the sign's bit
abbrev pub sign_bit_value : ℤ → ℤ
sign_bit_value z =
    let y : ℤ = if is_in (from (pos 0)) z then pos 0 else z in
    if is_in (up_to (negsuc 0)) y then pos 1 else y

sign_bit_is : (m : ℕ) → m < 4294967296 → sign_bit_value (score m) ≡ score (m / 2147483648)
sign_bit_is = by_sign (λ m a. sign_bit_value a ≡ score (m / 2147483648))
    (λ m h. ap (λ b. let y : ℤ = if b then pos 0 else pos m in if is_in (up_to (negsuc 0)) y then pos 1 else y) (le-leb 0 m zero-le) ∙ ap score (let e : 0 ≡ m / 2147483648 = omega arith in e))
    (λ k h. ap (λ b. if b then pos 1 else negsuc k) (le-leb 0 k zero-le) ∙ ap score (let e : 1 ≡ (4294967295 - k) / 2147483648 = omega arith in e))

fold_finds : (b : Bool) (k : ℕ) (s : State) (z : ℤ) → pinned (sets_power k ∷ makes (codes "#a") divide (codes "#m") ∷ sets_power (32 - k) ∷ rest_line b (codes "#a") ∷ []) (with_one s z) ≡ true
fold_finds true k s z = refl
fold_finds false k s z = refl

fold_left : (b : Bool) (k : ℕ) (s : State) (z : ℤ) → (settled (sets_power k ∷ makes (codes "#a") divide (codes "#m") ∷ sets_power (32 - k) ∷ rest_line b (codes "#a") ∷ []) (with_one s z)).scores (codes "#a") ≡ Some (fold_value b k z)
fold_left true k s z = refl
fold_left false k s z = refl

pub shr_u_leaves : (m k : ℕ) → m < 4294967296 → k < 32 → (s : State) → Leaves (shr_u_steps k) (with_one s (score m)) (score (m / 2 ^ k))
shr_u_leaves m k h g s = go (nat_eq k 0) refl (nat_eq k 31) refl
  where
    go : (z : Bool) → nat_eq k 0 ≡ z → (b : Bool) → nat_eq k 31 ≡ b
        → Leaves (if z then [] else if b then sign_bit_steps (codes "#a") else sets_power k ∷ makes (codes "#a") divide (codes "#m") ∷ rest_steps (32 - k) (codes "#a")) (with_one s (score m)) (score (m / 2 ^ k))
    go true e b d = leaves_none (with_one s (score m)) _ (ap (λ x. Some (score x)) ((let y : m ≡ m / 1 = omega arith in y) ∙ ap (λ j. m / 2 ^ j) (sym (eq_same k 0 e))))
    go false e true d = record { finds = refl; left = ap Some (sign_bit_is m h ∙ ap (λ j. score (m / 2 ^ j)) (sym (eq_same k 31 d))) }
    go false e false d =
        let positive : 0 < k = (let y : nat_eq k 0 ≡ false = e in grind arith) in
        let small : k < 31 = (let y : nat_eq k 31 ≡ false = d in grind (arith, g)) in
        record { finds = fold_finds (nat_lt (32 - k) 31) k s (score m); left = fold_left (nat_lt (32 - k) 31) k s (score m) ∙ ap Some (fold_is k m positive small h) }

-- ---- rotations

comes_in : (m k : ℕ) → 0 < k → k < 32 → m / 2 ^ (32 - k) ≡ m / 2 / 2 ^ (31 - k)
comes_in m k p h = let e : 32 - k ≡ 1 + (31 - k) = omega arith in ap (λ j. m / 2 ^ j) e ∙ sym (shr-shr m 1 (31 - k))

-- what stays and what comes in
both_parts : (m k : ℕ) → m < 4294967296 → 0 < k → k < 32 → wrapped (wrapped (score m *ℤ score (2 ^ k)) +ℤ score (m / 2 ^ (32 - k))) ≡ score (rotated w32 m k)
both_parts m k h p g =
    let le : m / 2 / 2 ^ (31 - k) ≤ m / 2 = div-le_self (m / 2) (2 ^ (31 - k)) in
    ap (λ y. wrapped (wrapped (score m *ℤ score (2 ^ k)) +ℤ y)) (ap score (comes_in m k p g) ∙ low_score (m / 2 / 2 ^ (31 - k)) (omega (arith, le)))
    ∙ rotation_is m k (31 - k) h (omega arith)

abbrev turn_by : Bool → ℕ → List Step
turn_by b k =
    makes (codes "#c") assign (codes "#a")
    ∷ ((sets_power (32 - k) ∷ makes (codes "#c") divide (codes "#m") ∷ sets_power (32 - (32 - k)) ∷ rest_line b (codes "#c") ∷ [])
    ++ (makes (codes "#a") multiply (codes "#m") ∷ makes (codes "#a") add (codes "#c") ∷ []))

turn_finds : (b : Bool) (k : ℕ) (s : State) (z : ℤ) → pinned (turn_by b k) (with_one s z) ≡ true
turn_finds true k s z = refl
turn_finds false k s z = refl

turn_left : (b : Bool) (k : ℕ) (s : State) (z : ℤ) → (settled (turn_by b k) (with_one s z)).scores (codes "#a") ≡ Some (wrapped (wrapped (z *ℤ score (2 ^ (32 - (32 - k)))) +ℤ fold_value b (32 - k) z))
turn_left true k s z = refl
turn_left false k s z = refl

once_round : (m : ℕ) → m < 4294967296 → wrapped (wrapped (score m +ℤ score m) +ℤ sign_bit_value (score m)) ≡ score (rotated w32 m 1)
once_round m h =
    let two : (m + m) % 4294967296 ≡ (m * 2) % 4294967296 = ap (λ x. x % 4294967296) (let e : m + m ≡ m * 2 = omega arith in e) in
    ap₂ (λ x y. wrapped (x +ℤ y)) (sum_of m m h h ∙ ap score two ∙ sym (product_of m 2 h (omega arith))) (sign_bit_is m h)
    ∙ both_parts m 1 h (omega arith) (omega arith)

pub rotl_leaves : (m k : ℕ) → m < 4294967296 → k < 32 → (s : State) → Leaves (rotl_steps k) (with_one s (score m)) (score (rotated w32 m k))
rotl_leaves m k h g s = go (nat_eq k 0) refl (nat_eq k 1) refl (nat_eq (32 - k) 31) refl
  where
    go : (z : Bool) → nat_eq k 0 ≡ z → (b : Bool) → nat_eq k 1 ≡ b → (d : Bool) → nat_eq (32 - k) 31 ≡ d
        → Leaves
        (if z then []
        else makes (codes "#c") assign (codes "#a")
        ∷ ((if d then sign_bit_steps (codes "#c") else sets_power (32 - k) ∷ makes (codes "#c") divide (codes "#m") ∷ rest_steps (32 - (32 - k)) (codes "#c"))
        ++ (makes (codes "#a") (if b then add else multiply) (if b then codes "#a" else codes "#m") ∷ makes (codes "#a") add (codes "#c") ∷ [])))
        (with_one s (score m)) (score (rotated w32 m k))
    go true e b d dd f =
        let none : m ≡ rotated w32 m 0 = omega arith in
        leaves_none (with_one s (score m)) _ (ap (λ x. Some (score x)) (none ∙ ap (rotated w32 m) (sym (eq_same k 0 e))))
    go false e true d true f = record { finds = refl; left = ap Some (once_round m h ∙ ap (λ j. score (rotated w32 m j)) (sym (eq_same k 1 d))) }
    go false e true d false f = absurd (let k1 : k ≡ 1 = eq_same k 1 d in let z : true ≡ false = sym (ap (λ j. nat_eq (32 - j) 31) k1) ∙ f in cc)
    go false e false d true f = absurd (let y : 32 - k ≡ 31 = eq_same (32 - k) 31 f in let k1 : k ≡ 1 = omega arith in let z : true ≡ false = sym (ap (λ j. nat_eq j 1) k1) ∙ d in cc)
    go false e false d false f =
        let positive : 0 < k = (let y : nat_eq k 0 ≡ false = e in grind arith) in
        let more : 0 < 32 - k = omega arith in
        let other : 32 - k < 31 = (let y : nat_eq (32 - k) 31 ≡ false = f in grind (arith, positive)) in
        let back : 32 - (32 - k) ≡ k = omega arith in
        record {
          finds = turn_finds (nat_lt (32 - (32 - k)) 31) k s (score m);
          left = turn_left (nat_lt (32 - (32 - k)) 31) k s (score m)
              ∙ ap Some (ap₂ (λ i y. wrapped (wrapped (score m *ℤ score (2 ^ i)) +ℤ y)) back (fold_is (32 - k) m more other h) ∙ both_parts m k h positive g);
        }
