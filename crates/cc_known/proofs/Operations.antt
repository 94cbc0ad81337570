-- Each operation with a constant on `#a`: what its items perform on places, that its steps fit, and how many they are.
use Rattle.std.proofs.Common.{◌≡◌, ℕ, zero, suc, ◌+◌, ◌-◌, ◌*◌, ◌/◌, ◌%◌, ◌^◌, ◌<◌, ◌≤◌, List, [], ◌∷◌, ◌++◌, length, ℤ, Some, None, Bool, true, false, nat_eq, nat_le, nat_lt, refl, sym, ap, ◌∙◌, subst, arith, mod-lt, ⊎_elim, if◌then◌else◌, codes}
use Rattle.std.specs.Prelude.{bit_and, bit_or, bit_xor}
use Rattle.std.specs.Int.{w32, cast_unsigned, trailing_zeros}
use Rattle.std.proofs.Math.Pow.{pow_mono}
use Rattle.std.proofs.lemmas.Bool.{cases_lt, leb-true, lt-ltb, ltb-true, lt-leb, le-leb, le-ltb}
use Rattle.std.proofs.lemmas.Nat.{pow_pos}
use Rattle.std.proofs.lemmas.Option.{same_Some}
use mir.ValLaws.{of_z_fits}
use Rattle.mc_nbt.proofs.TestLemmas.{and_first, and_second, eq_same}
use Rattle.mc_nbt.specs.Word.{is_int}
use Rattle.mc_nbt.specs.declared.value.Kind.TheVariants.{I32}
use Rattle.mc_nbt.specs.declared.value.Value.TheVariants as values
use Rattle.mc_cmd.specs.Command.{add, assign, divide, multiply}
use Rattle.wm_ast.specs.Apply.{apply, outcome}
use Rattle.wm_ast.specs.Integer.{idiv_s, idiv_u, irem_s, irem_u, irotl, irotr, ishl, ishr_s, ishr_u, number}
use Rattle.wm_ast.specs.declared.answer.Answer.{Answer}
use Rattle.wm_ast.specs.declared.answer.Answer.TheVariants as answers
use Rattle.wm_ast.specs.declared.operation.NumOp.{NumOp}
use Rattle.wm_ast.specs.declared.operation.NumOp.TheVariants.{I32And, I32Or, I32Xor, I32Shl, I32ShrS, I32ShrU, I32Rotl, I32Rotr, I32DivU, I32RemU, I32DivS, I32RemS, I32LtU, I32LeU, I32GtU, I32GeU}
use Rattle.cc_line.specs.Item.{Items}
use Rattle.cc_line.specs.Routine.{Performs, outcome_of}
use Rattle.cc_line.specs.State.{State, place_at}
use Rattle.cc_line.specs.Step.{Step}
use Rattle.cc_line.proofs.SettleLemmas.{with_one}
use Rattle.cc_line.proofs.Words.{score, int_fits}
use Rattle.cc_bits.specs.Line.{makes}
use Rattle.cc_bits.specs.Operation.{one_items}
use Rattle.cc_bits.proofs.ShiftFacts.{to_the_right}
use Rattle.cc_bits.proofs.UnaryLemmas.{core_performs}
use Rattle.cc_known.specs.Compare.{below_steps, not_below_steps}
use Rattle.cc_known.specs.Divide.{div_s_steps, rem_s_steps, rem_u_steps}
use Rattle.cc_known.specs.Mask.{and_steps, or_steps, rest_steps, sets_power, xor_steps}
use Rattle.cc_known.specs.Operation.{if_few, is_positive, is_power, known_core, known_most, only}
use Rattle.cc_known.specs.Shift.{rotl_steps, shl_steps, shr_s_steps, shr_u_steps, sign_bit_steps}
use Rattle.cc_known.proofs.Comparisons.{below_leaves, not_below_leaves}
use Rattle.cc_known.proofs.Divisions.{div_s_gives, div_s_leaves, quotient_word, rem_s_gives, rem_s_leaves, rem_u_leaves, rest_word}
use Rattle.cc_known.proofs.Fine.{Fine, and_fine, below_fine, div_s_fine, not_below_fine, or_fine, rem_s_fine, rem_u_fine, rotl_fine, shl_fine, shr_s_fine, shr_u_fine, xor_fine}
use Rattle.cc_known.proofs.Leading.{Leaves}
use Rattle.cc_known.proofs.Masks.{and_leaves, or_leaves, xor_leaves}
use Rattle.cc_known.proofs.Shifts.{rotl_leaves, shl_leaves, shr_s_leaves, shr_u_leaves}
use Rattle.cc_known.proofs.Working.{core_of}

-- ---- what it means that there are lines

record Few (xs core : List Step) : Type 0 where
  few : length xs ≤ 36
  same : xs ≡ core

few_is : (xs core : List Step) → if_few xs ≡ Some core → Few xs core
few_is xs core e = go (nat_le (length xs) 36) refl e
  where
    go : (b : Bool) → nat_le (length xs) 36 ≡ b → (if b then Some xs else None) ≡ Some core → Few xs core
    go true l f = record { few = leb-true (length xs) 36 l; same = same_Some _ _ f }
    go false l f = absurd cc

record Only (b : Bool) (xs core : List Step) : Type 0 where
  so : b ≡ true
  same : xs ≡ core

only_is : (b : Bool) (xs core : List Step) → only b xs ≡ Some core → Only b xs core
only_is true xs core f = record { so = refl; same = same_Some _ _ f }
only_is false xs core f = absurd cc

-- ---- the numbers

word_below : (y : ℤ) (n : ℕ) → is_int y ≡ true → cast_unsigned w32 y ≡ n → n < 4294967296
word_below y n i e = subst (λ (j : ℕ). j < 4294967296) e (of_z_fits w32 y (int_fits y i)).fits

record Power (n : ℕ) : Type 0 where
  is : 2 ^ trailing_zeros w32 n ≡ n
  small : trailing_zeros w32 n < 32
  some : 0 < n

power_of : (n : ℕ) → n < 4294967296 → is_power n ≡ true → Power n
power_of n h e =
    let is : 2 ^ trailing_zeros w32 n ≡ n = eq_same (2 ^ trailing_zeros w32 n) n e in
    let p : 0 < 2 ^ trailing_zeros w32 n = pow_pos (trailing_zeros w32 n) in
    record {
      is = is;
      small = ⊎_elim (λ l. l) (λ g. absurd (let q : 4294967296 ≤ 2 ^ trailing_zeros w32 n = pow_mono g in omega (arith, q, is, h))) (cases_lt (trailing_zeros w32 n) 32);
      some = omega (arith, p, is);
    }

quotient_u : (m n : ℕ) → 0 < n → outcome I32 (idiv_u w32 m n) ≡ outcome I32 (number (m / n))
quotient_u m zero p = absurd (omega (arith, p))
quotient_u m (suc n) p = refl

rest_u : (m n : ℕ) → 0 < n → outcome I32 (irem_u w32 m n) ≡ outcome I32 (number (m % n))
rest_u m zero p = absurd (omega (arith, p))
rest_u m (suc n) p = refl

-- ---- what the items perform

-- the answer of a word
abbrev gives_word : ℕ → Answer
gives_word i = answers.Value (values.I32 (score i))

by_core : (core : List Step) (f : ℕ → ℕ) → Fine core → ((m : ℕ) → m < 4294967296 → (s : State) → Leaves core (with_one s (score m)) (score (f m)))
    → (a r : ℕ) (s : State) (x : ℤ) (o : Answer) → a < length s.places → r < length s.places → place_at s a ≡ x → is_int x ≡ true
    → Some (gives_word (f (cast_unsigned w32 x))) ≡ Some o → Performs (one_items a r core) s r (outcome_of o)
by_core core f fine leaves a r s x o la lr ex ix e = core_performs core f (λ m h. core_of core (score m) (score (f m)) fine.works fine.fits (leaves m h)) a r s x o la lr ex ix e

-- with the first operand in the place a, and the second one this number
abbrev pub PerformsBy : NumOp → ℕ → Items → ℕ → ℕ → Type 0
PerformsBy op n xs a r =
    (s : State) (x y : ℤ) (o : Answer) → a < length s.places → r < length s.places → place_at s a ≡ x → is_int x ≡ true → is_int y ≡ true → cast_unsigned w32 y ≡ n
    → apply op (values.I32 x ∷ (values.I32 y ∷ [])) ≡ Some o → Performs xs s r (outcome_of o)

-- an operation that gives the word f of its operands' words
by_words : (op : NumOp) (f : ℕ → ℕ → ℕ) → ((x y : ℤ) → apply op (values.I32 x ∷ (values.I32 y ∷ [])) ≡ Some (gives_word (f (cast_unsigned w32 x) (cast_unsigned w32 y))))
    → (core : List Step) (n : ℕ) → Fine core → ((m : ℕ) → m < 4294967296 → n < 4294967296 → (s : State) → Leaves core (with_one s (score m)) (score (f m n)))
    → (a r : ℕ) → PerformsBy op n (one_items a r core) a r
by_words op f is core n fine leaves a r s x y o la lr ex ix iy ey e =
    let below : n < 4294967296 = word_below y n iy ey in
    by_core core (λ m. f m n) fine (λ m h. leaves m h below) a r s x o la lr ex ix (ap (λ j. Some (gives_word (f (cast_unsigned w32 x) j))) (sym ey) ∙ (sym (is x y) ∙ e))

-- the same where this is so only of this number
by_word : (op : NumOp) (f : ℕ → ℕ) (core : List Step) (n : ℕ) → ((x y : ℤ) → is_int x ≡ true → n < 4294967296 → cast_unsigned w32 y ≡ n → apply op (values.I32 x ∷ (values.I32 y ∷ [])) ≡ Some (gives_word (f (cast_unsigned w32 x))))
    → Fine core → ((m : ℕ) → m < 4294967296 → n < 4294967296 → (s : State) → Leaves core (with_one s (score m)) (score (f m)))
    → (a r : ℕ) → PerformsBy op n (one_items a r core) a r
by_word op f core n is fine leaves a r s x y o la lr ex ix iy ey e =
    let below : n < 4294967296 = word_below y n iy ey in
    by_core core f fine (λ m h. leaves m h below) a r s x o la lr ex ix (sym (is x y ix below ey) ∙ e)

-- ---- the cores

abbrev pub Lines : NumOp → ℕ → List Step → Type 0
Lines op n core = Fine core × (2 * length core + 4 ≤ known_most op) × ((a r : ℕ) → PerformsBy op n (one_items a r core) a r)

mask_lines : (op : NumOp) (f : ℕ → ℕ → ℕ) → ((x y : ℤ) → apply op (values.I32 x ∷ (values.I32 y ∷ [])) ≡ Some (gives_word (f (cast_unsigned w32 x) (cast_unsigned w32 y)))) → known_most op ≡ 76
    → (xs core : List Step) (n : ℕ) → Fine xs → ((m : ℕ) → m < 4294967296 → n < 4294967296 → (s : State) → Leaves xs (with_one s (score m)) (score (f m n))) → if_few xs ≡ Some core → Lines op n core
mask_lines op f is most xs core n fine leaves e =
    let k = few_is xs core e in
    let few : length xs ≤ 36 = k.few in
    subst (Lines op n) k.same (fine, omega (arith, few, most), by_words op f is xs n fine leaves)

plain_lines : (op : NumOp) (f : ℕ → ℕ → ℕ) → ((x y : ℤ) → apply op (values.I32 x ∷ (values.I32 y ∷ [])) ≡ Some (gives_word (f (cast_unsigned w32 x) (cast_unsigned w32 y))))
    → (xs core : List Step) (n : ℕ) → Fine xs → 2 * length xs + 4 ≤ known_most op → ((m : ℕ) → m < 4294967296 → n < 4294967296 → (s : State) → Leaves xs (with_one s (score m)) (score (f m n))) → Some xs ≡ Some core → Lines op n core
plain_lines op f is xs core n fine most leaves e = subst (Lines op n) (same_Some _ _ e) (fine, most, by_words op f is xs n fine leaves)

at_most_if : (b : Bool) (xs ys : List Step) (k : ℕ) → length xs ≤ k → length ys ≤ k → length (if b then xs else ys) ≤ k
at_most_if true xs ys k l g = l
at_most_if false xs ys k l g = g

shl_few : (k : ℕ) → length (shl_steps k) ≤ 4
shl_few k = at_most_if (nat_eq k 0) [] _ 4 (omega arith) (omega arith)

shr_s_few : (k : ℕ) → length (shr_s_steps k) ≤ 4
shr_s_few k = at_most_if (nat_eq k 0) [] _ 4 (omega arith) (at_most_if (nat_eq k 31) _ _ 4 (omega arith) (omega arith))

shr_u_few : (k : ℕ) → length (shr_u_steps k) ≤ 4
shr_u_few k = at_most_if (nat_eq k 0) [] _ 4 (omega arith) (at_most_if (nat_eq k 31) (sign_bit_steps (codes "#a")) _ 4 (omega arith) (omega arith))

rem_u_few : (k : ℕ) → length (rem_u_steps k) ≤ 4
rem_u_few k = at_most_if (nat_eq k 0) _ _ 4 (omega arith) (omega arith)

rotl_few : (k : ℕ) → length (rotl_steps k) ≤ 8
rotl_few k = at_most_if (nat_eq k 0) [] _ 8 (omega arith) (go (nat_eq (32 - k) 31))
  where
    go : (b : Bool) → length
        (makes (codes "#c") assign (codes "#a")
        ∷ ((if b then sign_bit_steps (codes "#c") else sets_power (32 - k) ∷ makes (codes "#c") divide (codes "#m") ∷ rest_steps (32 - (32 - k)) (codes "#c"))
        ++ (makes (codes "#a") (if nat_eq k 1 then add else multiply) (if nat_eq k 1 then codes "#a" else codes "#m") ∷ makes (codes "#a") add (codes "#c") ∷ []))) ≤ 8
    go true = omega arith
    go false = omega arith

power_lines : (op : NumOp) (xs core : List Step) (n : ℕ) (f : ℕ → ℕ → ℕ) → known_most op ≡ 12 → Fine xs → length xs ≤ 4
    → ((x y : ℤ) → Power n → cast_unsigned w32 y ≡ n → apply op (values.I32 x ∷ (values.I32 y ∷ [])) ≡ Some (gives_word (f (cast_unsigned w32 x) n)))
    → ((m : ℕ) → m < 4294967296 → Power n → (s : State) → Leaves xs (with_one s (score m)) (score (f m n)))
    → only (is_power n) xs ≡ Some core → Lines op n core
power_lines op xs core n f most fine few is leaves e =
    let k = only_is (is_power n) xs core e in
    subst (Lines op n) k.same
    (fine, omega (arith, few, most), by_word op (λ m. f m n) xs n (λ x y ix below ey. is x y (power_of n below k.so) ey) fine (λ m h below s. leaves m h (power_of n below k.so) s))

positive_lines : (op : NumOp) (xs core : List Step) (n : ℕ) (f : ℕ → ℕ → ℕ) → known_most op ≡ 12 → (nat_lt n 2147483648 ≡ true → Fine xs) → length xs ≤ 4
    → ((x y : ℤ) → is_int x ≡ true → 0 < n → n < 2147483648 → cast_unsigned w32 y ≡ n → apply op (values.I32 x ∷ (values.I32 y ∷ [])) ≡ Some (gives_word (f (cast_unsigned w32 x) n)))
    → ((m : ℕ) → m < 4294967296 → 0 < n → n < 2147483648 → (s : State) → Leaves xs (with_one s (score m)) (score (f m n)))
    → only (is_positive n) xs ≡ Some core → Lines op n core
positive_lines op xs core n f most fine few is leaves e =
    let k = only_is (is_positive n) xs core e in
    let low : nat_lt 0 n ≡ true = and_first _ (nat_lt n 2147483648) k.so in
    let high : nat_lt n 2147483648 ≡ true = and_second (nat_lt 0 n) _ k.so in
    let p : 0 < n = ltb-true 0 n low in
    let g : n < 2147483648 = ltb-true n 2147483648 high in
    subst (Lines op n) k.same
    (fine high, omega (arith, few, most), by_word op (λ m. f m n) xs n (λ x y ix below ey. is x y ix p g ey) (fine high) (λ m h below s. leaves m h p g s))

range_lines : (op : NumOp) (b : Bool) (xs core : List Step) (n : ℕ) (f : ℕ → ℕ → Bool) → known_most op ≡ 12 → Fine xs → length xs ≤ 4
    → ((x y : ℤ) → apply op (values.I32 x ∷ (values.I32 y ∷ [])) ≡ Some (gives_word (if f (cast_unsigned w32 x) (cast_unsigned w32 y) then 1 else 0)))
    → ((m : ℕ) → m < 4294967296 → n < 4294967296 → b ≡ true → (s : State) → Leaves xs (with_one s (score m)) (score (if f m n then 1 else 0)))
    → only b xs ≡ Some core → Lines op n core
range_lines op b xs core n f most fine few is leaves e =
    let k = only_is b xs core e in
    subst (Lines op n) k.same (fine, omega (arith, few, most), by_words op (λ i j. if f i j then 1 else 0) is xs n fine (λ m h below s. leaves m h below k.so s))

up_to_next : (m n : ℕ) → nat_lt m (suc n) ≡ nat_le m n
up_to_next m n = ⊎_elim
    (λ l. lt-ltb m (suc n) l ∙ sym (le-leb m n (omega arith)))
    (λ g. le-ltb m (suc n) g ∙ sym (lt-leb m n (omega arith)))
    (cases_lt m (suc n))

from_next : (m n : ℕ) → nat_le (suc n) m ≡ nat_lt n m
from_next m n = ⊎_elim
    (λ l. lt-leb (suc n) m l ∙ sym (le-ltb n m (omega arith)))
    (λ g. le-leb (suc n) m g ∙ sym (lt-ltb n m (omega arith)))
    (cases_lt m (suc n))

pub known_lines : (op : NumOp) (n : ℕ) (core : List Step) → known_core op n ≡ Some core → Lines op n core
known_lines I32And n core e = mask_lines I32And bit_and (λ x y. refl) refl (and_steps n) core n (and_fine n) (λ m h g s. and_leaves m n h g s) e
known_lines I32Or n core e = mask_lines I32Or bit_or (λ x y. refl) refl (or_steps n) core n (or_fine n) (λ m h g s. or_leaves m n h g s) e
known_lines I32Xor n core e = mask_lines I32Xor bit_xor (λ x y. refl) refl (xor_steps n) core n (xor_fine n) (λ m h g s. xor_leaves m n h g s) e
known_lines I32Shl n core e =
    let few = shl_few (n % 32) in
    plain_lines I32Shl (ishl w32) (λ x y. refl) (shl_steps (n % 32)) core n (shl_fine (n % 32)) (omega (arith, few)) (λ m h g s. shl_leaves m (n % 32) h (mod-lt n (omega arith)) s) e
known_lines I32ShrS n core e =
    let few = shr_s_few (n % 32) in
    plain_lines I32ShrS (ishr_s w32) (λ x y. refl) (shr_s_steps (n % 32)) core n (shr_s_fine (n % 32)) (omega (arith, few)) (λ m h g s. shr_s_leaves m n h s) e
known_lines I32ShrU n core e =
    let few = shr_u_few (n % 32) in
    plain_lines I32ShrU (ishr_u w32) (λ x y. refl) (shr_u_steps (n % 32)) core n (shr_u_fine (n % 32)) (omega (arith, few)) (λ m h g s. shr_u_leaves m (n % 32) h (mod-lt n (omega arith)) s) e
known_lines I32Rotl n core e =
    let few = rotl_few (n % 32) in
    plain_lines I32Rotl (irotl w32) (λ x y. refl) (rotl_steps (n % 32)) core n (rotl_fine (n % 32)) (omega (arith, few)) (λ m h g s. rotl_leaves m (n % 32) h (mod-lt n (omega arith)) s) e
known_lines I32Rotr n core e =
    let k : ℕ = (32 - n % 32) % 32 in
    let few = rotl_few ((32 - n % 32) % 32) in
    plain_lines I32Rotr (irotr w32) (λ x y. refl) (rotl_steps ((32 - n % 32) % 32)) core n (rotl_fine ((32 - n % 32) % 32)) (omega (arith, few))
    (λ m h g s. subst (λ w. Leaves (rotl_steps ((32 - n % 32) % 32)) (with_one s (score m)) (score w)) (to_the_right m n h) (rotl_leaves m ((32 - n % 32) % 32) h (mod-lt (32 - n % 32) (omega arith)) s)) e
known_lines I32DivU n core e =
    power_lines I32DivU (shr_u_steps (trailing_zeros w32 n)) core n (λ m n. m / n) refl (shr_u_fine (trailing_zeros w32 n)) (shr_u_few (trailing_zeros w32 n))
    (λ x y p ey. ap (λ j. Some (outcome I32 (idiv_u w32 (cast_unsigned w32 x) j))) ey ∙ ap Some (quotient_u (cast_unsigned w32 x) n p.some))
    (λ m h p s. subst (λ j. Leaves (shr_u_steps (trailing_zeros w32 n)) (with_one s (score m)) (score (m / j))) p.is (shr_u_leaves m (trailing_zeros w32 n) h p.small s)) e
known_lines I32RemU n core e =
    power_lines I32RemU (rem_u_steps (trailing_zeros w32 n)) core n (λ m n. m % n) refl (rem_u_fine (trailing_zeros w32 n)) (rem_u_few (trailing_zeros w32 n))
    (λ x y p ey. ap (λ j. Some (outcome I32 (irem_u w32 (cast_unsigned w32 x) j))) ey ∙ ap Some (rest_u (cast_unsigned w32 x) n p.some))
    (λ m h p s. subst (λ j. Leaves (rem_u_steps (trailing_zeros w32 n)) (with_one s (score m)) (score (m % j))) p.is (rem_u_leaves m (trailing_zeros w32 n) h p.small s)) e
known_lines I32DivS n core e =
    positive_lines I32DivS (div_s_steps n) core n quotient_word refl (div_s_fine n) (omega arith)
    (λ x y ix p g ey. ap (λ j. Some (outcome I32 (idiv_s w32 (cast_unsigned w32 x) j))) ey ∙ ap (λ q. Some (outcome I32 q)) (div_s_gives (cast_unsigned w32 x) n (of_z_fits w32 x (int_fits x ix)).fits p g))
    (λ m h p g s. div_s_leaves m n h p g s) e
known_lines I32RemS n core e =
    positive_lines I32RemS (rem_s_steps n) core n rest_word refl (rem_s_fine n) (omega arith)
    (λ x y ix p g ey. ap (λ j. Some (outcome I32 (irem_s w32 (cast_unsigned w32 x) j))) ey ∙ ap (λ q. Some (outcome I32 q)) (rem_s_gives (cast_unsigned w32 x) n p g))
    (λ m h p g s. rem_s_leaves m n h p g s) e
known_lines I32LtU n core e =
    range_lines I32LtU (nat_lt 0 n) (below_steps n) core n nat_lt refl (below_fine n) (omega arith) (λ x y. refl) (λ m h g b s. below_leaves m n h (ltb-true 0 n b) g s) e
known_lines I32GeU n core e =
    range_lines I32GeU (nat_lt 0 n) (not_below_steps n) core n (λ i j. nat_le j i) refl (not_below_fine n) (omega arith) (λ x y. refl) (λ m h g b s. not_below_leaves m n h (ltb-true 0 n b) g s) e
known_lines I32LeU n core e =
    range_lines I32LeU (nat_lt n 4294967295) (below_steps (suc n)) core n nat_le refl (below_fine (suc n)) (omega arith) (λ x y. refl)
    (λ m h g b s. let l : n < 4294967295 = ltb-true n 4294967295 b in subst (λ c. Leaves (below_steps (suc n)) (with_one s (score m)) (score (if c then 1 else 0))) (up_to_next m n) (below_leaves m (suc n) h (omega arith) (omega arith) s)) e
known_lines I32GtU n core e =
    range_lines I32GtU (nat_lt n 4294967295) (not_below_steps (suc n)) core n (λ i j. nat_lt j i) refl (not_below_fine (suc n)) (omega arith) (λ x y. refl)
    (λ m h g b s. let l : n < 4294967295 = ltb-true n 4294967295 b in subst (λ c. Leaves (not_below_steps (suc n)) (with_one s (score m)) (score (if c then 1 else 0))) (from_next m n) (not_below_leaves m (suc n) h (omega arith) (omega arith) s)) e
known_lines _ n core e = absurd cc
