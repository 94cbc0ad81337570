-- The lines of a sum of rests: what they make of the scores of words in `#a` and `#c`.
use Rattle.std.proofs.Common.{◌≡◌, ℕ, zero, suc, ◌+◌, ◌-◌, ◌%◌, ◌^◌, ◌<◌, List, [], ◌∷◌, ◌++◌, Some, Bool, true, false, nat_lt, nat_eq, refl, sym, ap, ◌∙◌, subst, arith, mod-lt, if◌then◌else◌, append_assoc}
use Rattle.std.specs.Prelude.{ℤ, ◌+ℤ◌, ◌-ℤ◌, codes}
use Rattle.std.specs.Int.{bit_at}
use Rattle.std.proofs.lemmas.Nat.Bits.{bit_at-lt}
use Rattle.mc_cmd.specs.World.{wrapped}
use Rattle.mc_nbt.proofs.TestLemmas.{eq_same}
use Rattle.cc_line.specs.State.{State}
use Rattle.cc_line.specs.Step.{Step}
use Rattle.cc_line.proofs.SettleLemmas.{pinned, settled}
use Rattle.cc_line.proofs.Words.{score, sum_of, difference_of}
use Rattle.cc_known.specs.Mask.{sets_power, rest_line, rest_steps, change_steps, is_one, sum_steps}
use Rattle.cc_known.proofs.Leading.{Leaves, leaves_then, leaves_none, with_both, both_kept}
use Rattle.cc_known.proofs.Remainders.{rest_value, rest_is}
use Rattle.cc_known.proofs.Sums.{times, amount, changed_once, changed, rest_below, kept_under_ones, kept_under_zeros, part_of_ones, part_of_zeros}

-- ---- one part

abbrev part_by : Bool → ℕ → Bool → Bool → List Step
part_by b p twice less = (sets_power p ∷ rest_line b (codes "#c") ∷ []) ++ change_steps twice less

abbrev change_once : Bool → ℤ → ℤ → ℤ
change_once true a v = wrapped (a -ℤ v)
change_once false a v = wrapped (a +ℤ v)

abbrev change_value : Bool → Bool → ℤ → ℤ → ℤ
change_value false less a v = change_once less a v
change_value true less a v = change_once less (change_once less a v) v

part_finds : (b : Bool) (p : ℕ) (twice less : Bool) (s : State) (a c : ℤ) → pinned (part_by b p twice less) (with_both s a c) ≡ true
part_finds true p true true s a c = refl
part_finds true p true false s a c = refl
part_finds true p false true s a c = refl
part_finds true p false false s a c = refl
part_finds false p true true s a c = refl
part_finds false p true false s a c = refl
part_finds false p false true s a c = refl
part_finds false p false false s a c = refl

part_rest : (b : Bool) (p : ℕ) (twice less : Bool) (s : State) (a c : ℤ) → (settled (part_by b p twice less) (with_both s a c)).scores (codes "#c") ≡ Some (rest_value b p c)
part_rest true p true true s a c = refl
part_rest true p true false s a c = refl
part_rest true p false true s a c = refl
part_rest true p false false s a c = refl
part_rest false p true true s a c = refl
part_rest false p true false s a c = refl
part_rest false p false true s a c = refl
part_rest false p false false s a c = refl

part_sum : (b : Bool) (p : ℕ) (twice less : Bool) (s : State) (a c : ℤ) → (settled (part_by b p twice less) (with_both s a c)).scores (codes "#a") ≡ Some (change_value twice less a (rest_value b p c))
part_sum true p true true s a c = refl
part_sum true p true false s a c = refl
part_sum true p false true s a c = refl
part_sum true p false false s a c = refl
part_sum false p true true s a c = refl
part_sum false p true false s a c = refl
part_sum false p false true s a c = refl
part_sum false p false false s a c = refl

once_is : (less : Bool) (a v : ℕ) → a < 4294967296 → v < 4294967296 → change_once less (score a) (score v) ≡ score (changed_once less a v)
once_is true a v f g = difference_of a v f g
once_is false a v f g = sum_of a v f g

once_below : (less : Bool) (a v : ℕ) → changed_once less a v < 4294967296
once_below true a v = mod-lt (a + (4294967296 - v)) (omega arith)
once_below false a v = mod-lt (a + v) (omega arith)

change_is : (twice less : Bool) (a v : ℕ) → a < 4294967296 → v < 4294967296 → change_value twice less (score a) (score v) ≡ score (changed twice less a v)
change_is false less a v f g = once_is less a v f g
change_is true less a v f g = ap (λ z. change_once less z (score v)) (once_is less a v f g) ∙ once_is less (changed_once less a v) v (once_below less a v) g

changed_below : (twice less : Bool) (a v : ℕ) → changed twice less a v < 4294967296
changed_below false less a v = once_below less a v
changed_below true less a v = once_below less (changed_once less a v) v

-- what follows a part
part_then : (p : ℕ) (twice less : Bool) (a v : ℕ) (s : State) (ys : List Step) (z : ℤ) → p < 32 → a < 4294967296 → v < 4294967296
    → ((t : State) → Leaves ys (with_both t (score (changed twice less a (v % 2 ^ p))) (score (v % 2 ^ p))) z)
    → Leaves (rest_steps p (codes "#c") ++ (change_steps twice less ++ ys)) (with_both s (score a) (score v)) z
part_then p twice less a v s ys z h fa fv f =
    let b : Bool = nat_lt p 31 in
    let r : ℕ = v % 2 ^ p in
    let below : v % 2 ^ p < 4294967296 = rest_below v p h in
    let t : State = settled (part_by (nat_lt p 31) p twice less) (with_both s (score a) (score v)) in
    let rest : rest_value (nat_lt p 31) p (score v) ≡ score (v % 2 ^ p) = rest_is p v h fv in
    let c_is : t.scores (codes "#c") ≡ Some (score (v % 2 ^ p)) = part_rest (nat_lt p 31) p twice less s (score a) (score v) ∙ ap Some rest in
    let a_is : t.scores (codes "#a") ≡ Some (score (changed twice less a (v % 2 ^ p))) =
    part_sum (nat_lt p 31) p twice less s (score a) (score v) ∙ ap Some (ap (change_value twice less (score a)) rest ∙ change_is twice less a (v % 2 ^ p) fa below)
    in
    let g : Leaves ys t z = subst (λ u. Leaves ys u z) (both_kept t (score (changed twice less a (v % 2 ^ p))) (score (v % 2 ^ p)) a_is c_is) (f t) in
    let whole : Leaves (part_by (nat_lt p 31) p twice less ++ ys) (with_both s (score a) (score v)) z = leaves_then (part_by (nat_lt p 31) p twice less) ys (with_both s (score a) (score v)) z (part_finds (nat_lt p 31) p twice less s (score a) (score v)) g in
    whole

-- ---- the whole sum

bit_one : (n p : ℕ) → is_one n p ≡ true → bit_at n p ≡ 1
bit_one n p e = eq_same (bit_at n p) 1 e

bit_none : (n p : ℕ) → is_one n p ≡ false → bit_at n p ≡ 0
bit_none n p e = go (bit_at n p) (bit_at-lt n p) e
  where
    go : (b : ℕ) → b < 2 → nat_eq b 1 ≡ false → b ≡ 0
    go b l e = grind arith

pub sum_none : (twice ones : Bool) (n : ℕ) → sum_steps twice 0 ones n ≡ []
unfolding sum_steps
sum_none twice ones n = refl

pub sum_under_ones : (twice : Bool) (p n : ℕ) → sum_steps twice (suc p) true n ≡ (if is_one n p then sum_steps twice p true n else rest_steps (suc p) (codes "#c") ++ (change_steps twice true ++ sum_steps twice p false n))
unfolding sum_steps
sum_under_ones twice p n = refl

pub sum_under_zeros : (twice : Bool) (p n : ℕ) → sum_steps twice (suc p) false n ≡ (if is_one n p then rest_steps (suc p) (codes "#c") ++ (change_steps twice false ++ sum_steps twice p true n) else sum_steps twice p false n)
unfolding sum_steps
sum_under_zeros twice p n = refl

nothing_more : (twice ones : Bool) (n a v : ℕ) → a < 4294967296 → a ≡ amount twice ones 0 n a v
nothing_more false false n a v h = omega arith
nothing_more false true n a v h = omega arith
nothing_more true false n a v h = omega arith
nothing_more true true n a v h = omega arith

-- by what has been worked out for the places below
abbrev LeavesSum : Bool → ℕ → Bool → ℕ → Type 0
LeavesSum twice p ones n = (a v : ℕ) → a < 4294967296 → v < 4294967296 → (s : State) → Leaves (sum_steps twice p ones n) (with_both s (score a) (score v)) (score (amount twice ones p n a v))

under_ones : (twice : Bool) (p n : ℕ) → suc p < 32 → LeavesSum twice p true n → LeavesSum twice p false n → LeavesSum twice (suc p) true n
under_ones twice p n h one none a v fa fv s = subst (λ xs. Leaves xs (with_both s (score a) (score v)) (score (amount twice true (suc p) n a v))) (sym (sum_under_ones twice p n)) (go (is_one n p) refl)
  where
    go : (b : Bool) → is_one n p ≡ b → Leaves (if b then sum_steps twice p true n else rest_steps (suc p) (codes "#c") ++ (change_steps twice true ++ sum_steps twice p false n)) (with_both s (score a) (score v)) (score (amount twice true (suc p) n a v))
    go true e = subst (λ x. Leaves (sum_steps twice p true n) (with_both s (score a) (score v)) (score ((a + times twice x) % 4294967296))) (sym (kept_under_ones p n v h (bit_one n p e))) (one a v fa fv s)
    go false e =
        part_then (suc p) twice true a v s (sum_steps twice p false n) (score (amount twice true (suc p) n a v)) h fa fv
        (λ t. subst (λ w. Leaves (sum_steps twice p false n) (with_both t (score (changed twice true a (v % 2 ^ suc p))) (score (v % 2 ^ suc p))) (score w)) (part_of_ones twice p n a v (bit_none n p e))
        (none (changed twice true a (v % 2 ^ suc p)) (v % 2 ^ suc p) (changed_below twice true a (v % 2 ^ suc p)) (rest_below v (suc p) h) t))

under_zeros : (twice : Bool) (p n : ℕ) → suc p < 32 → LeavesSum twice p true n → LeavesSum twice p false n → LeavesSum twice (suc p) false n
under_zeros twice p n h one none a v fa fv s = subst (λ xs. Leaves xs (with_both s (score a) (score v)) (score (amount twice false (suc p) n a v))) (sym (sum_under_zeros twice p n)) (go (is_one n p) refl)
  where
    go : (b : Bool) → is_one n p ≡ b → Leaves (if b then rest_steps (suc p) (codes "#c") ++ (change_steps twice false ++ sum_steps twice p true n) else sum_steps twice p false n) (with_both s (score a) (score v)) (score (amount twice false (suc p) n a v))
    go true e =
        part_then (suc p) twice false a v s (sum_steps twice p true n) (score (amount twice false (suc p) n a v)) h fa fv
        (λ t. subst (λ w. Leaves (sum_steps twice p true n) (with_both t (score (changed twice false a (v % 2 ^ suc p))) (score (v % 2 ^ suc p))) (score w)) (part_of_zeros twice p n a v h (bit_one n p e))
        (one (changed twice false a (v % 2 ^ suc p)) (v % 2 ^ suc p) (changed_below twice false a (v % 2 ^ suc p)) (rest_below v (suc p) h) t))
    go false e = subst (λ x. Leaves (sum_steps twice p false n) (with_both s (score a) (score v)) (score ((a + times twice x) % 4294967296))) (sym (kept_under_zeros p n v (bit_none n p e))) (none a v fa fv s)

pub sum_leaves : (twice : Bool) (p : ℕ) → p < 32 → (ones : Bool) (n : ℕ) → LeavesSum twice p ones n
sum_leaves twice zero h ones n = λ a v fa fv s.
    subst (λ xs. Leaves xs (with_both s (score a) (score v)) (score (amount twice ones 0 n a v))) (sym (sum_none twice ones n))
    (leaves_none (with_both s (score a) (score v)) (score (amount twice ones 0 n a v)) (ap (λ x. Some (score x)) (nothing_more twice ones n a v fa)))
sum_leaves twice (suc p) h true n = under_ones twice p n h (sum_leaves twice p (omega arith) true n) (sum_leaves twice p (omega arith) false n)
sum_leaves twice (suc p) h false n = under_zeros twice p n h (sum_leaves twice p (omega arith) true n) (sum_leaves twice p (omega arith) false n)

-- ---- by what stands at the place below

one_less : (p : ℕ) → p ≡ suc p - 1
one_less p = omega arith

pub sum_same : (twice : Bool) (p : ℕ) (ones : Bool) (n : ℕ) → (p ≡ 0 → ⊥) → is_one n (p - 1) ≡ ones → sum_steps twice p ones n ≡ sum_steps twice (p - 1) ones n
sum_same twice zero ones n z e = absurd (z refl)
sum_same twice (suc p) true n z e = subst (λ (q : ℕ). is_one n q ≡ true → sum_steps twice (suc p) true n ≡ sum_steps twice q true n) (one_less p) (λ f. sum_under_ones twice p n ∙ ap (λ b. if b then sum_steps twice p true n else rest_steps (suc p) (codes "#c") ++ (change_steps twice true ++ sum_steps twice p false n)) f) e
sum_same twice (suc p) false n z e = subst (λ (q : ℕ). is_one n q ≡ false → sum_steps twice (suc p) false n ≡ sum_steps twice q false n) (one_less p) (λ f. sum_under_zeros twice p n ∙ ap (λ b. if b then rest_steps (suc p) (codes "#c") ++ (change_steps twice false ++ sum_steps twice p true n) else sum_steps twice p false n) f) e

pub sum_part : (twice : Bool) (p : ℕ) (ones one : Bool) (n : ℕ) → (p ≡ 0 → ⊥) → is_one n (p - 1) ≡ one → (one ≡ ones → ⊥) → sum_steps twice p ones n ≡ (rest_steps p (codes "#c") ++ change_steps twice ones) ++ sum_steps twice (p - 1) one n
sum_part twice zero ones one n z e d = absurd (z refl)
sum_part twice (suc p) true true n z e d = absurd (d refl)
sum_part twice (suc p) false false n z e d = absurd (d refl)
sum_part twice (suc p) true false n z e d =
    subst (λ (q : ℕ). is_one n q ≡ false → sum_steps twice (suc p) true n ≡ (rest_steps (suc p) (codes "#c") ++ change_steps twice true) ++ sum_steps twice q false n) (one_less p)
    (λ f. sum_under_ones twice p n ∙ ap (λ b. if b then sum_steps twice p true n else rest_steps (suc p) (codes "#c") ++ (change_steps twice true ++ sum_steps twice p false n)) f ∙ sym (append_assoc (rest_steps (suc p) (codes "#c")) (change_steps twice true) (sum_steps twice p false n))) e
sum_part twice (suc p) false true n z e d =
    subst (λ (q : ℕ). is_one n q ≡ true → sum_steps twice (suc p) false n ≡ (rest_steps (suc p) (codes "#c") ++ change_steps twice false) ++ sum_steps twice q true n) (one_less p)
    (λ f. sum_under_zeros twice p n ∙ ap (λ b. if b then rest_steps (suc p) (codes "#c") ++ (change_steps twice false ++ sum_steps twice p true n) else sum_steps twice p false n) f ∙ sym (append_assoc (rest_steps (suc p) (codes "#c")) (change_steps twice false) (sum_steps twice p true n))) e
