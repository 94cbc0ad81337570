-- And, or and xor with a constant: the lines leave what the operators give.
use Rattle.std.proofs.Common.{◌≡◌, ℕ, suc, ◌+◌, ◌-◌, ◌*◌, ◌%◌, ◌^◌, ◌<◌, ◌≤◌, List, [], ◌∷◌, ◌++◌, ℤ, pos, negsuc, ◌+ℤ◌, ◌-ℤ◌, ◌*ℤ◌, Some, Bool, true, false, nat_eq, nat_lt, refl, sym, ap, ap₂, ◌∙◌, subst, arith, mod-lt, mod-eq_of_lt, ⊎_elim, if◌then◌else◌, codes}
use Rattle.std.specs.Prelude.{bit_and, bit_or, bit_xor}
use Rattle.std.specs.Int.{w32, bit_at, leading_zeros}
use Rattle.std.proofs.Math.Pow.{pow_mono}
use Rattle.std.proofs.lemmas.Bool.{cases_lt, ltb-true, ltb-false}
use Rattle.std.proofs.lemmas.Int.{ints}
use Rattle.std.proofs.lemmas.Nat.{and_mask, and_mod, and_comm, and_le_r, and-not, leading_top, or_of_32, pow_below, pow_pos, xor_of_32}
use lib.Bits.{or_add_and, xor_add_and}
use Rattle.mc_cmd.specs.World.{wrapped}
use Rattle.mc_nbt.proofs.TestLemmas.{eq_same}
use Rattle.cc_i32.specs.Light.{least}
use Rattle.cc_line.specs.State.{State}
use Rattle.cc_line.specs.Place.{scratch}
use Rattle.cc_line.specs.Step.{Step, decrease, increase, run_act}
use Rattle.cc_bits.specs.Line.{makes, sets}
use Rattle.mc_cmd.specs.Command.{add}
use Rattle.cc_line.proofs.SettleLemmas.{pinned, settled, with_one}
use Rattle.cc_line.proofs.Words.{score, low_score, high_score, sum_of, product_of}
use Rattle.cc_known.specs.Mask.{rest_steps, rest_line, sets_power, sum_steps, after_copy, bit_count, and_steps, more_steps, or_steps, turn_steps, xor_steps}
use Rattle.cc_known.proofs.Leading.{Leaves, leaves_then, leaves_none, with_both, one_kept, copied}
use Rattle.cc_known.proofs.Remainders.{rest_value, rest_is}
use Rattle.cc_known.proofs.Sums.{amount, next_rest, and_whole, rest_below}
use Rattle.cc_known.proofs.Parts.{sum_leaves}

-- ---- a rest in place

rest_finds : (b : Bool) (p : ℕ) (s : State) (z : ℤ) → pinned (sets_power p ∷ rest_line b (codes "#a") ∷ []) (with_one s z) ≡ true
rest_finds true p s z = refl
rest_finds false p s z = refl

rest_left : (b : Bool) (p : ℕ) (s : State) (z : ℤ) → (settled (sets_power p ∷ rest_line b (codes "#a") ∷ []) (with_one s z)).scores (codes "#a") ≡ Some (rest_value b p z)
rest_left true p s z = refl
rest_left false p s z = refl

pub rest_leaves : (p m : ℕ) → p < 32 → m < 4294967296 → (s : State) → Leaves (rest_steps p (codes "#a")) (with_one s (score m)) (score (m % 2 ^ p))
rest_leaves p m h g s = record { finds = rest_finds (nat_lt p 31) p s (score m); left = rest_left (nat_lt p 31) p s (score m) ∙ ap Some (rest_is p m h g) }

-- ---- and

and_within : (m n p : ℕ) → n < 2 ^ p → (bit_and (m % 2 ^ p) n ≡ bit_and m n) × (bit_and m n % 2 ^ p ≡ bit_and m n)
and_within m n p h =
    let le : bit_and m n ≤ n = and_le_r m n in
    let small : bit_and m n < 2 ^ p = omega (arith, le, h) in
    let whole : bit_and m n % 2 ^ p ≡ bit_and m n = mod-eq_of_lt small in
    let both : bit_and m n % 2 ^ p ≡ bit_and (m % 2 ^ p) n = and_mod m n p ∙ ap (bit_and (m % 2 ^ p)) (mod-eq_of_lt h) in
    (sym both ∙ whole, whole)

left_over : (x r : ℕ) → x < 4294967296 → r < 4294967296 → (r + (x + (4294967296 - r))) % 4294967296 ≡ x
left_over x r h g = omega arith

low_amount : (m n p : ℕ) → p < 32 → n < 2 ^ p → amount false true p n (m % 2 ^ p) (m % 2 ^ p) ≡ bit_and m n
low_amount m n p h g =
    let k = and_within m n p g in
    let le : bit_and m n ≤ n = and_le_r m n in
    let b : 2 ^ p < 4294967296 = pow_below p 32 h in
    let r : m % 2 ^ p < 2 ^ p = mod-lt m (pow_pos p) in
    ap₂ (λ x y. (m % 2 ^ p + (x % 2 ^ p + (4294967296 - y))) % 4294967296) k.0 (mod-eq_of_lt r)
    ∙ ap (λ x. (m % 2 ^ p + (x + (4294967296 - m % 2 ^ p))) % 4294967296) k.1
    ∙ left_over (bit_and m n) (m % 2 ^ p) (omega (arith, le, b, g)) (omega (arith, r, b))

low_leaves : (m n p : ℕ) → m < 4294967296 → p < 32 → n < 2 ^ p → (s : State) → Leaves (rest_steps p (codes "#a") ++ after_copy (sum_steps false p true n)) (with_one s (score m)) (score (bit_and m n))
low_leaves m n p f h g s =
    let first = rest_leaves p m h f s in
    let below : m % 2 ^ p < 4294967296 = rest_below m p h in
    let t : State = settled (rest_steps p (codes "#a")) (with_one s (score m)) in
    let then_ : Leaves (after_copy (sum_steps false p true n)) (with_one t (score (m % 2 ^ p))) (score (bit_and m n)) =
    copied (sum_steps false p true n) t (score (m % 2 ^ p)) (score (bit_and m n))
    (λ u. subst (λ w. Leaves (sum_steps false p true n) (with_both u (score (m % 2 ^ p)) (score (m % 2 ^ p))) (score w)) (low_amount m n p h g) (sum_leaves false p h true n (m % 2 ^ p) (m % 2 ^ p) below below u))
    in
    leaves_then (rest_steps p (codes "#a")) (after_copy (sum_steps false p true n)) (with_one s (score m)) (score (bit_and m n)) first.finds
    (subst (λ u. Leaves (after_copy (sum_steps false p true n)) u (score (bit_and m n))) (one_kept t (score (m % 2 ^ p)) first.left) then_)

top_bit : (n : ℕ) → 2147483648 ≤ n → n < 4294967296 → bit_at n 31 ≡ 1
top_bit n h g = omega arith

high_sum : (m a h x r : ℕ) → m < 4294967296 → m ≡ h + r → a ≡ h + x → a < 4294967296 → (m + (x + (4294967296 - r))) % 4294967296 ≡ a
high_sum m a h x r p e f g = omega arith

high_amount : (m n : ℕ) → m < 4294967296 → 2147483648 ≤ n → n < 4294967296 → amount false true 31 n m m ≡ bit_and m n
high_amount m n f h g =
    let le : bit_and m n ≤ n = and_le_r m n in
    let e : m % 4294967296 ≡ bit_at m 31 * 2147483648 + m % 2147483648 = next_rest m 31 in
    let d : bit_and m n % 4294967296 ≡ bit_at m 31 * 2147483648 + bit_and m n % 2147483648 = and_whole m n 31 (top_bit n h g) in
    high_sum m (bit_and m n) (bit_at m 31 * 2147483648) (bit_and m n % 2147483648) (m % 2147483648) f
    (sym (mod-eq_of_lt f) ∙ e) (sym (mod-eq_of_lt (let y : bit_and m n < 4294967296 = omega (arith, le, g) in y)) ∙ d) (omega (arith, le, g))

high_leaves : (m n : ℕ) → m < 4294967296 → 2147483648 ≤ n → n < 4294967296 → (s : State) → Leaves (after_copy (sum_steps false 31 true n)) (with_one s (score m)) (score (bit_and m n))
high_leaves m n f h g s =
    copied (sum_steps false 31 true n) s (score m) (score (bit_and m n))
    (λ u. subst (λ w. Leaves (sum_steps false 31 true n) (with_both u (score m) (score m)) (score w)) (high_amount m n f h g) (sum_leaves false 31 (omega arith) true n m m f f u))

-- the bits of a number from 1 to below 2^31
pub counted : (n : ℕ) → 0 < n → n < 2147483648 → (bit_count n < 32) × (n < 2 ^ bit_count n)
counted n h g =
    let t : (j : ℕ) × (leading_zeros w32 n + suc j ≡ 32) × (2 ^ j ≤ n) × (n < 2 ^ suc j) = leading_top 32 n h (let y : n < 4294967296 = omega arith in y) in
    let e : bit_count n ≡ suc t.0 = (let p : leading_zeros w32 n + suc t.0 ≡ 32 = t.1 in omega (arith, p)) in
    let small : t.0 < 31 = ⊎_elim (λ l. l) (λ k. absurd (let q : 2147483648 ≤ 2 ^ t.0 = pow_mono k in omega (arith, q, t.2))) (cases_lt t.0 31) in
    (omega (arith, e, small), subst (λ j. n < 2 ^ j) (sym e) t.3)

and_zero : (m : ℕ) → bit_and m 0 ≡ 0
and_zero m = let le : bit_and m 0 ≤ 0 = and_le_r m 0 in omega (arith, le)

pub and_leaves : (m n : ℕ) → m < 4294967296 → n < 4294967296 → (s : State) → Leaves (and_steps n) (with_one s (score m)) (score (bit_and m n))
and_leaves m n f g s = go (nat_eq n 0) refl (nat_lt n 2147483648) refl
  where
    go : (z : Bool) → nat_eq n 0 ≡ z → (b : Bool) → nat_lt n 2147483648 ≡ b → Leaves (if z then sets (codes "#a") (pos 0) ∷ [] else (if b then rest_steps (bit_count n) (codes "#a") ++ after_copy (sum_steps false (bit_count n) true n) else after_copy (sum_steps false 31 true n))) (with_one s (score m)) (score (bit_and m n))
    go true e b d = record { finds = refl; left = ap (λ x. Some (score x)) (sym (and_zero m) ∙ ap (bit_and m) (sym (eq_same n 0 e))) }
    go false e true d =
        let some : 0 < n = grind arith in
        let c = counted n some (ltb-true n 2147483648 d) in
        low_leaves m n (bit_count n) f c.0 c.1 s
    go false e false d = high_leaves m n f (ltb-false n 2147483648 d) g s

-- ---- a number more

minus_is : (z : ℤ) (k : ℕ) → z -ℤ pos (suc k) ≡ z +ℤ negsuc k
minus_is z k = omega (arith, ints)

pub more_leaves : (m n : ℕ) → m < 4294967296 → n < 4294967296 → (s : State) → Leaves (more_steps n) (with_one s (score m)) (score ((m + n) % 4294967296))
more_leaves m n f g s = go (nat_eq n 0) refl (nat_lt n 2147483648) refl (nat_eq n 2147483648) refl
  where
    go : (z : Bool) → nat_eq n 0 ≡ z → (b : Bool) → nat_lt n 2147483648 ≡ b → (h : Bool) → nat_eq n 2147483648 ≡ h
        → Leaves
        (if z then []
        else if b then run_act (increase (scratch (codes "#a")) n) ∷ []
        else if h then sets (codes "#m") least ∷ makes (codes "#a") add (codes "#m") ∷ []
        else run_act (decrease (scratch (codes "#a")) (4294967296 - n)) ∷ [])
        (with_one s (score m)) (score ((m + n) % 4294967296))
    go true e b d h i =
        let z : n ≡ 0 = eq_same n 0 e in
        leaves_none (with_one s (score m)) (score ((m + n) % 4294967296)) (ap (λ x. Some (score x)) (let y : m ≡ (m + n) % 4294967296 = omega (arith, z, f) in y))
    go false e true d h i =
        let low : score n ≡ pos n = low_score n (ltb-true n 2147483648 d) in
        record { finds = refl; left = ap Some (ap (λ y. wrapped (score m +ℤ y)) (sym low) ∙ sum_of m n f g) }
    go false e false d true i =
        let is : n ≡ 2147483648 = eq_same n 2147483648 i in
        record { finds = refl; left = ap Some (sum_of m 2147483648 f (omega arith) ∙ ap (λ x. score ((m + x) % 4294967296)) (sym is)) }
    go false e false d false i =
        let high : 2147483648 ≤ n = ltb-false n 2147483648 d in
        let k : ℕ = 4294967295 - n in
        let back : 4294967295 - (4294967295 - n) ≡ n = omega (arith, g) in
        let up : 4294967296 - n ≡ suc (4294967295 - n) = omega (arith, g) in
        let neg : score n ≡ negsuc (4294967295 - n) = ap score (sym back) ∙ high_score (4294967295 - n) (omega (arith, high, g)) in
        record { finds = refl; left = ap Some (ap (λ x. wrapped (score m -ℤ pos x)) up ∙ ap wrapped (minus_is (score m) (4294967295 - n)) ∙ ap (λ y. wrapped (score m +ℤ y)) (sym neg) ∙ sum_of m n f g) }

-- steps that leave a word, and then a number more
more_then : (xs : List Step) (m x n : ℕ) → x < 4294967296 → n < 4294967296 → (s : State) → Leaves xs (with_one s (score m)) (score x) → Leaves (xs ++ more_steps n) (with_one s (score m)) (score ((x + n) % 4294967296))
more_then xs m x n h g s f =
    let t : State = settled xs (with_one s (score m)) in
    leaves_then xs (more_steps n) (with_one s (score m)) (score ((x + n) % 4294967296)) f.finds
    (subst (λ u. Leaves (more_steps n) u (score ((x + n) % 4294967296))) (one_kept t (score x) f.left) (more_leaves x n h g t))

-- ---- or

-- what the constant hasn't
rest_of_and : (m n : ℕ) → m < 4294967296 → n < 4294967296 → bit_and m (4294967295 - n) + bit_and m n ≡ m
rest_of_and m n f g =
    let e : bit_and (4294967295 - n) m + bit_and n m ≡ m = and-not 32 n m g f in
    ap₂ (λ x y. x + y) (and_comm m (4294967295 - n)) (and_comm m n) ∙ e

pub or_leaves : (m n : ℕ) → m < 4294967296 → n < 4294967296 → (s : State) → Leaves (or_steps n) (with_one s (score m)) (score (bit_or m n))
or_leaves m n f g s =
    let e : bit_and m (4294967295 - n) + bit_and m n ≡ m = rest_of_and m n f g in
    let d : bit_or m n + bit_and m n ≡ m + n = or_add_and m n in
    let b : bit_or m n < 4294967296 = or_of_32 m n f g in
    let is : (bit_and m (4294967295 - n) + n) % 4294967296 ≡ bit_or m n = omega (arith, e, d, b) in
    subst (λ w. Leaves (or_steps n) (with_one s (score m)) (score w)) is
    (more_then (and_steps (4294967295 - n)) m (bit_and m (4294967295 - n)) n (omega (arith, e, f)) g s (and_leaves m (4294967295 - n) f (omega arith) s))

-- ---- xor

xor_sum : (m n a x v : ℕ) → m < 4294967296 → n < 4294967296 → a + x ≡ m → v + x * 2 ≡ m + n → v < 4294967296
    → ((m + ((a % 2147483648 + (4294967296 - m % 2147483648)) + (a % 2147483648 + (4294967296 - m % 2147483648)))) % 4294967296 + n) % 4294967296 ≡ v
xor_sum m n a x v f g e d b = omega arith

xor_amount : (m n : ℕ) → m < 4294967296 → n < 4294967296 → (amount true true 31 (4294967295 - n) m m + n) % 4294967296 ≡ bit_xor m n
xor_amount m n f g = xor_sum m n (bit_and m (4294967295 - n)) (bit_and m n) (bit_xor m n) f g (rest_of_and m n f g) (xor_add_and m n) (xor_of_32 m n f g)

turned_word : (m x v : ℕ) → m < 4294967296 → x ≡ m → v + x * 2 ≡ m + 4294967295 → ((m + 1) % 4294967296 * 4294967295) % 4294967296 ≡ v
turned_word m x v h e d = omega arith

turned_leaves : (m : ℕ) → m < 4294967296 → (s : State) → Leaves turn_steps (with_one s (score m)) (score (bit_xor m 4294967295))
turned_leaves m h s =
    let all : bit_and m 4294967295 ≡ m = (let e : bit_and m 4294967295 ≡ m % 4294967296 = and_mask m 32 in e) ∙ mod-eq_of_lt h in
    let is : ((m + 1) % 4294967296 * 4294967295) % 4294967296 ≡ bit_xor m 4294967295 = turned_word m (bit_and m 4294967295) (bit_xor m 4294967295) h all (xor_add_and m 4294967295) in
    record {
      finds = refl;
      left = ap Some (ap (λ z. wrapped (z *ℤ negsuc 0)) (sum_of m 1 h (omega arith)) ∙ product_of ((m + 1) % 4294967296) 4294967295 (mod-lt (m + 1) (omega arith)) (omega arith) ∙ ap score is);
    }

pub xor_leaves : (m n : ℕ) → m < 4294967296 → n < 4294967296 → (s : State) → Leaves (xor_steps n) (with_one s (score m)) (score (bit_xor m n))
xor_leaves m n f g s = go (nat_eq n 4294967295) refl
  where
    go : (b : Bool) → nat_eq n 4294967295 ≡ b → Leaves (if b then turn_steps else after_copy (sum_steps true 31 true (4294967295 - n)) ++ more_steps n) (with_one s (score m)) (score (bit_xor m n))
    go true e = subst (λ x. Leaves turn_steps (with_one s (score m)) (score (bit_xor m x))) (sym (eq_same n 4294967295 e)) (turned_leaves m f s)
    go false e =
        subst (λ w. Leaves (after_copy (sum_steps true 31 true (4294967295 - n)) ++ more_steps n) (with_one s (score m)) (score w)) (xor_amount m n f g)
        (more_then (after_copy (sum_steps true 31 true (4294967295 - n))) m (amount true true 31 (4294967295 - n) m m) n (mod-lt _ (omega arith)) g s
        (copied (sum_steps true 31 true (4294967295 - n)) s (score m) (score (amount true true 31 (4294967295 - n) m m)) (λ u. sum_leaves true 31 (omega arith) true (4294967295 - n) m m f f u)))
