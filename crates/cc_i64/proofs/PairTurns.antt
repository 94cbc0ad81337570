-- What the lines on four scores make of the words of two numbers.
use Rattle.std.proofs.Common.{◌≡◌, ℕ, List, ◌/◌, ◌%◌, ◌<◌, ℤ, pos, negsuc, ◌+ℤ◌, ◌-ℤ◌, Some, Bool, true, false, not, ◌&&◌, ◌||◌, ◌==◌, int_lt, refl, sym, ap, ap₂, ◌∙◌, arith, subst, codes, if◌then◌else◌}
use Rattle.std.proofs.lemmas.Int.{ints}
use Rattle.std.specs.Int.{w64}
use Rattle.mc_cmd.specs.Command.{Cmp, less, less_equal, equal, greater_equal, greater, exactly}
use Rattle.mc_cmd.specs.World.{wrapped, is_in, compares}
use Rattle.mc_cmd.specs.Word.{is_holder}
use Rattle.wm_ast.specs.Integer.{iadd, isub, ieqz, ieq, ine, ilt_s, ilt_u, igt_s, igt_u, ile_s, ile_u, ige_s, ige_u}
use Rattle.cc_line.specs.Place.{scratch}
use Rattle.cc_line.specs.Step.{Step}
use Rattle.cc_line.specs.Core.{Makes}
use Rattle.cc_line.proofs.RenameLemmas.{core_makes}
use Rattle.cc_line.proofs.SettleLemmas.{core_by}
use Rattle.cc_line.proofs.Words.{score, by_sign, flipped, flipped_lt, flipped_le, unwrapped_pos}
use Rattle.cc_i64.specs.Pairs.{Core, least, sum, difference, agree, signed_order, unsigned_order, both_zero}
use Rattle.cc_i64.proofs.PairSums.{pair, pair_of, one_more_if, one_less_if, sum_low, sum_high, sum_is, difference_low, difference_high, difference_is}
use Rattle.cc_i64.proofs.PairOrders.{equal_words, equal_back, pair_eqz, pair_eq, pair_lt_u, pair_le_u, pair_lt_s, pair_le_s}
use Rattle.cc_i64.proofs.SeatLemmas.{Turns, turns_by}

-- lines on the four scores
abbrev pub on_scores : Core → List Step
on_scores core = core (scratch (codes "#a")) (scratch (codes "#b")) (scratch (codes "#c")) (scratch (codes "#d"))

-- the words of two numbers as operands of lines that make these of them
abbrev pub Pairing : Core → (ℕ → ℕ → ℤ) → (ℕ → ℕ → ℤ) → Type 0
Pairing core x y = (m n : ℕ) → m < 18446744073709551616 → n < 18446744073709551616
    → Turns (on_scores core) (score (m % 4294967296)) (score (m / 4294967296)) (score (n % 4294967296)) (score (n / 4294967296)) (x m n) (y m n)

commuted : (z : ℤ) → least +ℤ z ≡ z +ℤ least
commuted z = omega (arith, ints)

-- ---- sums and differences

sum_so : (al ah bl bh : ℤ) → Turns (on_scores sum) al ah bl bh (sum_low al bl) (sum_high al ah bl bh)
sum_so al ah bl bh =
    turns_by (on_scores sum) al ah bl bh (sum_low al bl) (sum_high al ah bl bh) refl refl refl (λ s. refl) (λ s. refl)
    (λ s. ap (λ z. Some (one_more_if (int_lt (wrapped z) (flipped bl)) (wrapped (ah +ℤ bh)))) (commuted (wrapped (al +ℤ bl))))
    (λ s. refl) (λ s. refl)

difference_so : (al ah bl bh : ℤ) → Turns (on_scores difference) al ah bl bh (difference_low al bl) (difference_high al ah bl bh)
difference_so al ah bl bh =
    turns_by (on_scores difference) al ah bl bh (difference_low al bl) (difference_high al ah bl bh) refl refl refl (λ s. refl) (λ s. refl)
    (λ s. ap (λ z. Some (wrapped (one_less_if (int_lt (wrapped z) (flipped bl)) ah -ℤ bh))) (commuted al))
    (λ s. refl) (λ s. refl)

-- numbers of the words, by those of the pairs
by_pairs : (core : Core) (x y : ℕ → ℕ → ℤ)
    → ((ah al bh bl : ℕ) → ah < 4294967296 → al < 4294967296 → bh < 4294967296 → bl < 4294967296 → Turns (on_scores core) (score al) (score ah) (score bl) (score bh) (x (pair ah al) (pair bh bl)) (y (pair ah al) (pair bh bl)))
    → Pairing core x y
by_pairs core x y f m n hm hn =
    let t = f (m / 4294967296) (m % 4294967296) (n / 4294967296) (n % 4294967296) (omega arith) (omega arith) (omega arith) (omega arith) in
    subst (λ j. Turns (on_scores core) (score (m % 4294967296)) (score (m / 4294967296)) (score (n % 4294967296)) (score (n / 4294967296)) (x m j) (y m j)) (sym (pair_of n))
    (subst (λ i. Turns (on_scores core) (score (m % 4294967296)) (score (m / 4294967296)) (score (n % 4294967296)) (score (n / 4294967296)) (x i (pair (n / 4294967296) (n % 4294967296))) (y i (pair (n / 4294967296) (n % 4294967296)))) (sym (pair_of m)) t)

turns_as : (xs : List Step) (al ah bl bh x y x' y' : ℤ) → x ≡ x' → y ≡ y' → Turns xs al ah bl bh x y → Turns xs al ah bl bh x' y'
turns_as xs al ah bl bh x y x' y' p q t = subst (λ z. Turns xs al ah bl bh z y') p (subst (Turns xs al ah bl bh x) q t)

pub sum_turns : Pairing sum (λ m n. score (iadd w64 m n % 4294967296)) (λ m n. score (iadd w64 m n / 4294967296))
sum_turns = by_pairs sum (λ m n. score (iadd w64 m n % 4294967296)) (λ m n. score (iadd w64 m n / 4294967296))
    (λ ah al bh bl p q r s.
    let e = sum_is ah al bh bl p q r s in
    turns_as (on_scores sum) (score al) (score ah) (score bl) (score bh) _ _ _ _ e.0 e.1 (sum_so (score al) (score ah) (score bl) (score bh)))

pub difference_turns : Pairing difference (λ m n. score (isub w64 m n % 4294967296)) (λ m n. score (isub w64 m n / 4294967296))
difference_turns = by_pairs difference (λ m n. score (isub w64 m n % 4294967296)) (λ m n. score (isub w64 m n / 4294967296))
    (λ ah al bh bl p q r s.
    let e = difference_is ah al bh bl p q r s in
    turns_as (on_scores difference) (score al) (score ah) (score bl) (score bh) _ _ _ _ e.0 e.1 (difference_so (score al) (score ah) (score bl) (score bh)))

-- ---- truth values

abbrev pub truth_of : Bool → ℤ
truth_of b = score (if b then 1 else 0)

-- lines that tell a truth value, and leave the high half
abbrev pub Telling : Core → (ℕ → ℕ → Bool) → Type 0
Telling core t = Pairing core (λ m n. truth_of (t m n)) (λ m n. score (m / 4294967296))

told_by : (core : Core) (t : ℕ → ℕ → Bool) (f : ℤ → ℤ → ℤ → ℤ → Bool) → ((al ah bl bh : ℤ) → Turns (on_scores core) al ah bl bh (truth_of (f al ah bl bh)) ah)
    → ((ah al bh bl : ℕ) → ah < 4294967296 → al < 4294967296 → bh < 4294967296 → bl < 4294967296 → f (score al) (score ah) (score bl) (score bh) ≡ t (pair ah al) (pair bh bl))
    → Telling core t
told_by core t f so is m n hm hn =
    let e = is (m / 4294967296) (m % 4294967296) (n / 4294967296) (n % 4294967296) (omega arith) (omega arith) (omega arith) (omega arith) in
    turns_as (on_scores core) (score (m % 4294967296)) (score (m / 4294967296)) (score (n % 4294967296)) (score (n / 4294967296)) _ _ _ _
    (ap truth_of (e ∙ ap₂ t (sym (pair_of m)) (sym (pair_of n)))) refl
    (so (score (m % 4294967296)) (score (m / 4294967296)) (score (n % 4294967296)) (score (n / 4294967296)))

abbrev alike : ℤ → ℤ → ℤ → ℤ → Bool
alike al ah bl bh = compares equal al bl && compares equal ah bh

chosen : (b : Bool) → (if b then pos 1 else pos 0) ≡ truth_of b
chosen true = refl
chosen false = refl

turned_round : (b : Bool) → (if b then pos 0 else pos 1) ≡ truth_of (not b)
turned_round true = refl
turned_round false = refl

alike_so : (al ah bl bh : ℤ) → Turns (on_scores (agree (pos 1) (pos 0))) al ah bl bh (truth_of (alike al ah bl bh)) ah
alike_so al ah bl bh =
    turns_by (on_scores (agree (pos 1) (pos 0))) al ah bl bh (truth_of (alike al ah bl bh)) ah refl refl refl (λ s. refl)
    (λ s. ap Some (chosen (alike al ah bl bh))) (λ s. refl) (λ s. refl) (λ s. refl)

unlike_so : (al ah bl bh : ℤ) → Turns (on_scores (agree (pos 0) (pos 1))) al ah bl bh (truth_of (not (alike al ah bl bh))) ah
unlike_so al ah bl bh =
    turns_by (on_scores (agree (pos 0) (pos 1))) al ah bl bh (truth_of (not (alike al ah bl bh))) ah refl refl refl (λ s. refl)
    (λ s. ap Some (turned_round (alike al ah bl bh))) (λ s. refl) (λ s. refl) (λ s. refl)

alike_is : (ah al bh bl : ℕ) → ah < 4294967296 → al < 4294967296 → bh < 4294967296 → bl < 4294967296 → alike (score al) (score ah) (score bl) (score bh) ≡ ieq w64 (pair ah al) (pair bh bl)
alike_is ah al bh bl p q r s = ap₂ (λ x y. x && y) (equal_words al bl q s) (equal_words ah bh p r) ∙ sym (pair_eq ah al bh bl q s)

pub eq_turns : Telling (agree (pos 1) (pos 0)) (λ m n. ieq w64 m n)
eq_turns = told_by (agree (pos 1) (pos 0)) (λ m n. ieq w64 m n) alike alike_so alike_is

pub ne_turns : Telling (agree (pos 0) (pos 1)) (λ m n. ine w64 m n)
ne_turns = told_by (agree (pos 0) (pos 1)) (λ m n. ine w64 m n) (λ al ah bl bh. not (alike al ah bl bh)) unlike_so (λ ah al bh bl p q r s. ap not (alike_is ah al bh bl p q r s))

-- ---- orders

abbrev signed_holds : Cmp → Cmp → ℤ → ℤ → ℤ → ℤ → Bool
signed_holds high low al ah bl bh = (compares equal ah bh && compares low (flipped al) (flipped bl)) || compares high ah bh

abbrev unsigned_holds : Cmp → Cmp → ℤ → ℤ → ℤ → ℤ → Bool
unsigned_holds high low al ah bl bh = (compares equal ah bh && compares low (flipped al) (flipped bl)) || compares high (flipped ah) (flipped bh)

either_way : (p q : Bool) → (if p then pos 1 else (if q then pos 1 else pos 0)) ≡ truth_of (p || q)
either_way true q = refl
either_way false q = chosen q

signed_so : (high low : Cmp) (al ah bl bh : ℤ) → Turns (on_scores (signed_order high low)) al ah bl bh (truth_of (signed_holds high low al ah bl bh)) ah
signed_so high low al ah bl bh =
    turns_by (on_scores (signed_order high low)) al ah bl bh (truth_of (signed_holds high low al ah bl bh)) ah refl refl refl (λ s. refl)
    (λ s.
    ap (λ z. Some (if compares equal ah bh && compares low (flipped al) (wrapped z) then pos 1 else (if compares high ah bh then pos 1 else pos 0))) (commuted bl)
    ∙ ap Some (either_way (compares equal ah bh && compares low (flipped al) (flipped bl)) (compares high ah bh)))
    (λ s. refl) (λ s. refl) (λ s. refl)

unsigned_so : (high low : Cmp) (al ah bl bh : ℤ) → Turns (on_scores (unsigned_order high low)) al ah bl bh (truth_of (unsigned_holds high low al ah bl bh)) ah
unsigned_so high low al ah bl bh =
    turns_by (on_scores (unsigned_order high low)) al ah bl bh (truth_of (unsigned_holds high low al ah bl bh)) ah refl refl refl (λ s. refl)
    (λ s.
    ap (λ z. Some (if compares equal ah bh && compares low (flipped al) (wrapped z) then pos 1 else (if compares high (flipped ah) (flipped bh) then pos 1 else pos 0))) (commuted bl)
    ∙ ap Some (either_way (compares equal ah bh && compares low (flipped al) (flipped bl)) (compares high (flipped ah) (flipped bh))))
    (λ s. refl) (λ s. refl) (λ s. refl)

pub lt_s_turns : Telling (signed_order less less) (λ m n. ilt_s w64 m n)
lt_s_turns = told_by (signed_order less less) (λ m n. ilt_s w64 m n) (signed_holds less less) (signed_so less less)
    (λ ah al bh bl p q r s. ap₂ (λ x y. (x && y) || int_lt (score ah) (score bh)) (equal_words ah bh p r) (flipped_lt al bl q s) ∙ sym (pair_lt_s al bl q s ah bh p r))

pub le_s_turns : Telling (signed_order less less_equal) (λ m n. ile_s w64 m n)
le_s_turns = told_by (signed_order less less_equal) (λ m n. ile_s w64 m n) (signed_holds less less_equal) (signed_so less less_equal)
    (λ ah al bh bl p q r s. ap₂ (λ x y. (x && y) || int_lt (score ah) (score bh)) (equal_words ah bh p r) (flipped_le al bl q s) ∙ sym (pair_le_s al bl q s ah bh p r))

pub gt_s_turns : Telling (signed_order greater greater) (λ m n. igt_s w64 m n)
gt_s_turns = told_by (signed_order greater greater) (λ m n. igt_s w64 m n) (signed_holds greater greater) (signed_so greater greater)
    (λ ah al bh bl p q r s. ap₂ (λ x y. (x && y) || int_lt (score bh) (score ah)) (equal_back ah bh p r) (flipped_lt bl al s q) ∙ sym (pair_lt_s bl al s q bh ah r p))

pub ge_s_turns : Telling (signed_order greater greater_equal) (λ m n. ige_s w64 m n)
ge_s_turns = told_by (signed_order greater greater_equal) (λ m n. ige_s w64 m n) (signed_holds greater greater_equal) (signed_so greater greater_equal)
    (λ ah al bh bl p q r s. ap₂ (λ x y. (x && y) || int_lt (score bh) (score ah)) (equal_back ah bh p r) (flipped_le bl al s q) ∙ sym (pair_le_s bl al s q bh ah r p))

-- without sign the high words compare with the least number added, too
by_three : (x x' y y' z z' : Bool) → x ≡ x' → y ≡ y' → z ≡ z' → ((x && y) || z) ≡ ((x' && y') || z')
by_three x x' y y' z z' p q r = λ i. (p i && q i) || r i

pub lt_u_turns : Telling (unsigned_order less less) (λ m n. ilt_u w64 m n)
lt_u_turns = told_by (unsigned_order less less) (λ m n. ilt_u w64 m n) (unsigned_holds less less) (unsigned_so less less)
    (λ ah al bh bl p q r s. by_three _ _ _ _ _ _ (equal_words ah bh p r) (flipped_lt al bl q s) (flipped_lt ah bh p r) ∙ sym (pair_lt_u ah al bh bl q s))

pub le_u_turns : Telling (unsigned_order less less_equal) (λ m n. ile_u w64 m n)
le_u_turns = told_by (unsigned_order less less_equal) (λ m n. ile_u w64 m n) (unsigned_holds less less_equal) (unsigned_so less less_equal)
    (λ ah al bh bl p q r s. by_three _ _ _ _ _ _ (equal_words ah bh p r) (flipped_le al bl q s) (flipped_lt ah bh p r) ∙ sym (pair_le_u ah al bh bl q s))

pub gt_u_turns : Telling (unsigned_order greater greater) (λ m n. igt_u w64 m n)
gt_u_turns = told_by (unsigned_order greater greater) (λ m n. igt_u w64 m n) (unsigned_holds greater greater) (unsigned_so greater greater)
    (λ ah al bh bl p q r s. by_three _ _ _ _ _ _ (equal_back ah bh p r) (flipped_lt bl al s q) (flipped_lt bh ah r p) ∙ sym (pair_lt_u bh bl ah al s q))

pub ge_u_turns : Telling (unsigned_order greater greater_equal) (λ m n. ige_u w64 m n)
ge_u_turns = told_by (unsigned_order greater greater_equal) (λ m n. ige_u w64 m n) (unsigned_holds greater greater_equal) (unsigned_so greater greater_equal)
    (λ ah al bh bl p q r s. by_three _ _ _ _ _ _ (equal_back ah bh p r) (flipped_le bl al s q) (flipped_lt bh ah r p) ∙ sym (pair_le_u bh bl ah al s q))

-- ---- whether a number is 0

zero_is : (m : ℕ) → m < 4294967296 → is_in (exactly (pos 0)) (score m) ≡ (m == 0)
zero_is = by_sign (λ m a. is_in (exactly (pos 0)) a ≡ (m == 0)) (λ m h. grind arith) (λ k h. grind arith)

zero_only : (z : ℤ) → is_in (exactly (pos 0)) z ≡ true → z ≡ pos 0
zero_only (pos n) e = grind arith
zero_only (negsuc n) e = absurd cc

one_up : (l : ℤ) (p q : Bool) → is_in (exactly (pos 0)) l ≡ p → wrapped ((if not q then negsuc 0 else (if not p then negsuc 0 else l)) +ℤ pos 1) ≡ truth_of (p && q)
one_up l true true e = ap (λ z. wrapped (z +ℤ pos 1)) (zero_only l e) ∙ unwrapped_pos 1 (omega arith)
one_up l true false e = unwrapped_pos 0 (omega arith)
one_up l false true e = unwrapped_pos 0 (omega arith)
one_up l false false e = unwrapped_pos 0 (omega arith)

zero_so : (l h : ℤ) → Makes both_zero l h (truth_of (is_in (exactly (pos 0)) l && is_in (exactly (pos 0)) h))
unfolding is_holder
zero_so l h =
    core_makes (both_zero (scratch (codes "#a")) (scratch (codes "#b"))) l h (truth_of (is_in (exactly (pos 0)) l && is_in (exactly (pos 0)) h))
    (core_by (both_zero (scratch (codes "#a")) (scratch (codes "#b"))) l h (truth_of (is_in (exactly (pos 0)) l && is_in (exactly (pos 0)) h)) refl refl refl refl (λ s. refl)
    (λ s. ap Some (one_up l (is_in (exactly (pos 0)) l) (is_in (exactly (pos 0)) h) refl)) (λ s. refl))

pub zero_makes : (n : ℕ) → n < 18446744073709551616 → Makes both_zero (score (n % 4294967296)) (score (n / 4294967296)) (truth_of (ieqz w64 n))
zero_makes n h =
    let l : n % 4294967296 < 4294967296 = omega arith in
    let g : n / 4294967296 < 4294967296 = omega arith in
    subst (Makes both_zero (score (n % 4294967296)) (score (n / 4294967296)))
    (ap truth_of (ap₂ (λ x y. x && y) (zero_is (n % 4294967296) l) (zero_is (n / 4294967296) g) ∙ sym (pair_eqz (n / 4294967296) (n % 4294967296) l) ∙ ap (ieqz w64) (sym (pair_of n))))
    (zero_so (score (n % 4294967296)) (score (n / 4294967296)))
