-- Each operation from a place on: what its items perform.
use Rattle.std.proofs.Common.{◌≡◌, ℕ, suc, ◌+◌, ◌/◌, ◌%◌, ◌<◌, ◌≤◌, List, [], ◌∷◌, ◌++◌, length, ℤ, pos, Some, Bool, true, FitsSigned, refl, sym, ap, ap₂, ◌∙◌, subst, arith, codes}
use Rattle.std.specs.Prelude.{slice_set, slice_index_or}
use Rattle.std.specs.List.{list_all}
use Rattle.std.specs.Int.{w8, w16, w32, w64, cast_signed, cast_unsigned, int_wrap}
use Rattle.std.proofs.lemmas.Int.{to_z-of_z}
use Rattle.std.proofs.Math.ListN.{length-set}
use mir.ValLaws.{of_z_fits}
use Rattle.mc_nbt.proofs.TestLemmas.{some_same, and_first, and_second}
use Rattle.mc_nbt.specs.Word.{is_int, is_long}
use Rattle.mc_nbt.specs.Value.{is_value}
use Rattle.mc_nbt.specs.declared.value.Kind.TheVariants as kinds
use Rattle.mc_nbt.specs.declared.value.Value.{Value}
use Rattle.mc_nbt.specs.declared.value.Value.TheVariants as values
use Rattle.mc_cmd.specs.Command.{less, less_equal, greater_equal, greater}
use Rattle.mc_cmd.specs.Pack.{high_half}
use Rattle.mc_cmd.specs.Word.{is_holder}
use Rattle.mc_cmd.specs.World.{rest_by}
use Rattle.wm_ast.specs.declared.answer.Answer.{Answer}
use Rattle.wm_ast.specs.declared.operator.Operator.{Operator}
use Rattle.wm_ast.specs.declared.operator.Operator.TheVariants.{Test, Unary, Binary, Comparison, Wrap, ExtendS, ExtendU}
use Rattle.wm_ast.specs.declared.operator.UnaryOp.{UnaryOp}
use Rattle.wm_ast.specs.declared.operator.UnaryOp.TheVariants.{Clz, Ctz, Popcnt, Extend8S, Extend16S, Extend32S}
use Rattle.wm_ast.specs.declared.operator.BinaryOp.{BinaryOp}
use Rattle.wm_ast.specs.declared.operator.BinaryOp.TheVariants.{Add, Sub, Mul, DivS, DivU, RemS, RemU, And, Or, Xor, Shl, ShrS, ShrU, Rotl, Rotr}
use Rattle.wm_ast.specs.declared.operator.CompareOp.{CompareOp}
use Rattle.wm_ast.specs.declared.operator.CompareOp.TheVariants.{Eq, Ne, LtS, LtU, GtS, GtU, LeS, LeU, GeS, GeU}
use Rattle.wm_ast.specs.Integer.{iadd, isub, ieqz, ieq, ine, ilt_s, ilt_u, igt_s, igt_u, ile_s, ile_u, ige_s, ige_u, wrap, extend_s, extend_u, iextend_s}
use Rattle.wm_ast.specs.Apply.{operate, gives, truth, with_one, with_two}
use Rattle.cc_line.specs.Place.{Spot, scratch}
use Rattle.cc_line.specs.State.{State, place_at}
use Rattle.cc_line.specs.Step.{Step}
use Rattle.cc_line.specs.Fit.{steps_fit}
use Rattle.cc_line.specs.Core.{Straight, Replaced, MakesOne, on_one, on_two}
use Rattle.cc_line.specs.Item.{Items, no_more, steps_items}
use Rattle.cc_line.specs.Routine.{Gives, Performs, outcome_of, value_ints, values_ints, AreAt, answer_places}
use Rattle.cc_line.proofs.CoreLemmas.{straight_append, one_does, get_same}
use Rattle.cc_line.proofs.RenameLemmas.{core_makes_one}
use Rattle.cc_line.proofs.SettleLemmas.{core_by_one, pinned, with_one as with_first}
use Rattle.cc_line.proofs.OnPlacesLemmas.{straight_gives, two_give}
use Rattle.cc_line.proofs.Words.{score, fits_score, int_fits}
use Rattle.cc_i64.specs.Pairs.{Core, sum, difference, agree, signed_order, unsigned_order, both_zero, signed_part, on_pairs, word_back, pair_back, sign_behind, zero_behind}
use Rattle.cc_i64.specs.Operation.{is_extension, is_sum, is_own, unary_items, binary_items, compare_items, operator_items}
use Rattle.cc_line.proofs.Longs.{low_word, high_word, by_long, long_fits}
use Rattle.cc_line.proofs.Rests.{byte_fits, half_fits}
use Rattle.cc_i64.proofs.Extensions.{sign_word, signed_low, signed_high, plain_low, plain_high, part_of, byte_part, half_part}
use Rattle.cc_i64.proofs.PairPlaces.{Operands, Renames, pair_does, word_does, set_same}
use Rattle.cc_i64.proofs.PairTurns.{Pairing, Telling, truth_of, sum_turns, difference_turns, eq_turns, ne_turns, lt_s_turns, le_s_turns, gt_s_turns, ge_s_turns, lt_u_turns, le_u_turns, gt_u_turns, ge_u_turns, zero_makes}
use Rattle.cc_i64.proofs.SignLines.{sign_does, zero_does}

-- items that do an operator from a place on
abbrev From : Operator → Items → ℕ → Type 0
From q xs a =
    (s : State) (vs : List Value) (o : Answer) → list_all is_value vs ≡ true → AreAt s a (values_ints vs)
    → a + answer_places o ≤ length s.places → operate q vs ≡ Some o → Performs xs s a (outcome_of o)

-- ---- the operands' ints as words

low_of : (z : ℤ) → is_long z ≡ true → int_wrap w32 z ≡ score (cast_unsigned w64 z % 4294967296)
low_of z i = by_long (λ n z. int_wrap w32 z ≡ score (n % 4294967296)) low_word z i

high_of : (z : ℤ) → is_long z ≡ true → high_half z ≡ score (cast_unsigned w64 z / 4294967296)
high_of z i = by_long (λ n z. high_half z ≡ score (n / 4294967296)) high_word z i

long_below : (z : ℤ) → is_long z ≡ true → cast_unsigned w64 z < 18446744073709551616
long_below z i = (of_z_fits w64 z (long_fits z i)).fits

-- items that do a function of two numbers; of one; of an int
abbrev DoesTwo : Items → ℕ → (ℕ → ℕ → Answer) → Type 0
DoesTwo xs a op =
    (s : State) (m n : ℕ) → m < 18446744073709551616 → n < 18446744073709551616
    → Operands s a (score (m % 4294967296)) (score (m / 4294967296)) (score (n % 4294967296)) (score (n / 4294967296)) → Performs xs s a (outcome_of (op m n))

abbrev DoesOne : Items → ℕ → (ℕ → Answer) → Type 0
DoesOne xs a op =
    (s : State) (n : ℕ) → n < 18446744073709551616 → suc a < length s.places → place_at s a ≡ score (n % 4294967296) → place_at s (suc a) ≡ score (n / 4294967296)
    → Performs xs s a (outcome_of (op n))

abbrev DoesInt : Items → ℕ → (ℕ → Answer) → Type 0
DoesInt xs a op =
    (s : State) (x : ℤ) → is_int x ≡ true → place_at s a ≡ x → a + answer_places (op (cast_unsigned w32 x)) ≤ length s.places → Performs xs s a (outcome_of (op (cast_unsigned w32 x)))

two_longs : (xs : Items) (a : ℕ) (op : ℕ → ℕ → Answer) → DoesTwo xs a op → (s : State) (vs : List Value) (o : Answer) → list_all is_value vs ≡ true → AreAt s a (values_ints vs)
    → with_two kinds.I64 op vs ≡ Some o → Performs xs s a (outcome_of o)
two_longs xs a op f s [] o v p e = absurd cc
two_longs xs a op f s (x ∷ []) o v p e = absurd cc
two_longs xs a op f s (values.I32 x ∷ (values.I32 y ∷ [])) o v p e = absurd cc
two_longs xs a op f s (values.I32 x ∷ (values.I64 y ∷ [])) o v p e = absurd cc
two_longs xs a op f s (values.I64 x ∷ (values.I32 y ∷ [])) o v p e = absurd cc
two_longs xs a op f s (values.I64 x ∷ (values.I64 y ∷ [])) o v p e =
    let ix : is_long x ≡ true = and_first _ _ v in
    let iy : is_long y ≡ true = and_first _ _ (and_second (is_long x) _ v) in
    let l : suc (suc (suc a)) < length s.places = p.2.2.2.0 in
    subst (λ o. Performs xs s a (outcome_of o)) (some_same _ _ e)
    (f s (cast_unsigned w64 x) (cast_unsigned w64 y) (long_below x ix) (long_below y iy)
    (record { long = omega arith; first = p.1 ∙ low_of x ix; second = p.2.1 ∙ high_of x ix; third = p.2.2.1 ∙ low_of y iy; fourth = p.2.2.2.1 ∙ high_of y iy }))
two_longs xs a op f s (x ∷ (y ∷ (z ∷ vs))) o v p e = absurd cc

one_long : (xs : Items) (a : ℕ) (op : ℕ → Answer) → DoesOne xs a op → (s : State) (vs : List Value) (o : Answer) → list_all is_value vs ≡ true → AreAt s a (values_ints vs)
    → with_one kinds.I64 op vs ≡ Some o → Performs xs s a (outcome_of o)
one_long xs a op f s [] o v p e = absurd cc
one_long xs a op f s (values.I32 x ∷ []) o v p e = absurd cc
one_long xs a op f s (values.I64 x ∷ []) o v p e =
    let ix : is_long x ≡ true = and_first _ _ v in
    subst (λ o. Performs xs s a (outcome_of o)) (some_same _ _ e) (f s (cast_unsigned w64 x) (long_below x ix) p.2.0 (p.1 ∙ low_of x ix) (p.2.1 ∙ high_of x ix))
one_long xs a op f s (x ∷ (y ∷ vs)) o v p e = absurd cc

one_int : (xs : Items) (a : ℕ) (op : ℕ → Answer) → DoesInt xs a op → (s : State) (vs : List Value) (o : Answer) → list_all is_value vs ≡ true → AreAt s a (values_ints vs)
    → a + answer_places o ≤ length s.places → with_one kinds.I32 op vs ≡ Some o → Performs xs s a (outcome_of o)
one_int xs a op f s [] o v p l e = absurd cc
one_int xs a op f s (values.I32 x ∷ []) o v p l e =
    let same : op (cast_unsigned w32 x) ≡ o = some_same _ _ e in
    subst (λ o. Performs xs s a (outcome_of o)) same (f s x (and_first _ _ v) p.1 (subst (λ o. a + answer_places o ≤ length s.places) (sym same) l))
one_int xs a op f s (values.I64 x ∷ []) o v p l e = absurd cc
one_int xs a op f s (x ∷ (y ∷ vs)) o v p l e = absurd cc

-- ---- operations of two numbers

-- lines that leave the words of a number
long_gives : (xs : List Step) (s : State) (a n : ℕ) → n < 18446744073709551616
    → (u : State) × Straight xs s u × Replaced s u a (score (n % 4294967296) ∷ (score (n / 4294967296) ∷ [])) → Gives (steps_items xs) s a (value_ints (values.I64 (cast_signed w64 n)))
long_gives xs s a n h f = subst (λ zs. Gives (steps_items xs) s a zs) (ap₂ (λ x y. x ∷ (y ∷ [])) (sym (low_word n h)) (sym (high_word n h))) (straight_gives xs s f.0 a _ f.1 f.2)

by_number : (core : Core) (f : ℕ → ℕ → ℕ) → ((m n : ℕ) → f m n < 18446744073709551616) → Renames core → Pairing core (λ m n. score (f m n % 4294967296)) (λ m n. score (f m n / 4294967296))
    → (a : ℕ) → DoesTwo (steps_items (on_pairs a core (pair_back a))) a (λ m n. gives kinds.I64 (f m n))
by_number core f small names t a s m n hm hn o =
    long_gives (on_pairs a core (pair_back a)) s a (f m n) (small m n)
    (pair_does core (score (m % 4294967296)) (score (m / 4294967296)) (score (n % 4294967296)) (score (n / 4294967296)) (score (f m n % 4294967296)) (score (f m n / 4294967296)) a s names (t m n hm hn) o)

by_truth : (core : Core) (t : ℕ → ℕ → Bool) → Renames core → Telling core t → (a : ℕ) → DoesTwo (steps_items (on_pairs a core (word_back a))) a (λ m n. truth (t m n))
by_truth core t names f a s m n hm hn o =
    let u = word_does core (score (m % 4294967296)) (score (m / 4294967296)) (score (n % 4294967296)) (score (n / 4294967296)) (truth_of (t m n)) a s names (f m n hm hn) o in
    straight_gives (on_pairs a core (word_back a)) s u.0 a (truth_of (t m n) ∷ []) u.1 u.2

sum_below : (m n : ℕ) → iadd w64 m n < 18446744073709551616
sum_below m n = omega arith

difference_below : (m n : ℕ) → isub w64 m n < 18446744073709551616
difference_below m n = omega arith

binary_performs : (op : BinaryOp) → is_sum op ≡ true → (a : ℕ) → From (Binary kinds.I64 op) (binary_items op a) a
binary_performs Add k a = λ s vs o v p l e. two_longs (binary_items Add a) a (λ m n. gives kinds.I64 (iadd w64 m n)) (by_number sum (λ m n. iadd w64 m n) sum_below (λ a. refl) sum_turns a) s vs o v p e
binary_performs Sub k a = λ s vs o v p l e. two_longs (binary_items Sub a) a (λ m n. gives kinds.I64 (isub w64 m n)) (by_number difference (λ m n. isub w64 m n) difference_below (λ a. refl) difference_turns a) s vs o v p e
binary_performs Mul k a = absurd cc
binary_performs DivS k a = absurd cc
binary_performs DivU k a = absurd cc
binary_performs RemS k a = absurd cc
binary_performs RemU k a = absurd cc
binary_performs And k a = absurd cc
binary_performs Or k a = absurd cc
binary_performs Xor k a = absurd cc
binary_performs Shl k a = absurd cc
binary_performs ShrS k a = absurd cc
binary_performs ShrU k a = absurd cc
binary_performs Rotl k a = absurd cc
binary_performs Rotr k a = absurd cc

tells : (q : Operator) (core : Core) (t : ℕ → ℕ → Bool) → ((vs : List Value) → operate q vs ≡ with_two kinds.I64 (λ m n. truth (t m n)) vs) → Renames core → Telling core t
    → (a : ℕ) → From q (steps_items (on_pairs a core (word_back a))) a
tells q core t is names f a s vs o v p l e = two_longs (steps_items (on_pairs a core (word_back a))) a (λ m n. truth (t m n)) (by_truth core t names f a) s vs o v p (sym (is vs) ∙ e)

compare_performs : (op : CompareOp) (a : ℕ) → From (Comparison kinds.I64 op) (compare_items op a) a
compare_performs Eq = tells (Comparison kinds.I64 Eq) (agree (pos 1) (pos 0)) (λ m n. ieq w64 m n) (λ vs. refl) (λ a. refl) eq_turns
compare_performs Ne = tells (Comparison kinds.I64 Ne) (agree (pos 0) (pos 1)) (λ m n. ine w64 m n) (λ vs. refl) (λ a. refl) ne_turns
compare_performs LtS = tells (Comparison kinds.I64 LtS) (signed_order less less) (λ m n. ilt_s w64 m n) (λ vs. refl) (λ a. refl) lt_s_turns
compare_performs LtU = tells (Comparison kinds.I64 LtU) (unsigned_order less less) (λ m n. ilt_u w64 m n) (λ vs. refl) (λ a. refl) lt_u_turns
compare_performs GtS = tells (Comparison kinds.I64 GtS) (signed_order greater greater) (λ m n. igt_s w64 m n) (λ vs. refl) (λ a. refl) gt_s_turns
compare_performs GtU = tells (Comparison kinds.I64 GtU) (unsigned_order greater greater) (λ m n. igt_u w64 m n) (λ vs. refl) (λ a. refl) gt_u_turns
compare_performs LeS = tells (Comparison kinds.I64 LeS) (signed_order less less_equal) (λ m n. ile_s w64 m n) (λ vs. refl) (λ a. refl) le_s_turns
compare_performs LeU = tells (Comparison kinds.I64 LeU) (unsigned_order less less_equal) (λ m n. ile_u w64 m n) (λ vs. refl) (λ a. refl) le_u_turns
compare_performs GeS = tells (Comparison kinds.I64 GeS) (signed_order greater greater_equal) (λ m n. ige_s w64 m n) (λ vs. refl) (λ a. refl) ge_s_turns
compare_performs GeU = tells (Comparison kinds.I64 GeU) (unsigned_order greater greater_equal) (λ m n. ige_u w64 m n) (λ vs. refl) (λ a. refl) ge_u_turns

-- ---- operations of one

test_does : (a : ℕ) → DoesOne (steps_items (on_two a (suc a) a both_zero)) a (λ n. truth (ieqz w64 n))
test_does a s n h l p q = two_give both_zero (score (n % 4294967296)) (score (n / 4294967296)) (truth_of (ieqz w64 n)) a (suc a) a s (zero_makes n h) (omega arith) l (omega arith) p q

wrap_does : (a : ℕ) → DoesOne no_more a (λ n. gives kinds.I32 (wrap w64 w32 n))
wrap_does a s n h l p q = record {
  ready = tt;
  state = s;
  used = 0;
  ends = refl;
  replaced = record { places = sym (set_same s.places a (score (n % 4294967296)) p); keys = λ i j d. refl; scores = λ h i j. refl };
}

-- an int with its sign behind it
signed_gives : (xs : List Step) (s : State) (a : ℕ) (z : ℤ) → FitsSigned w32 z → (u : State) × Straight xs s u × Replaced s u a (z ∷ (sign_word z ∷ []))
    → Gives (steps_items xs) s a (value_ints (values.I64 (cast_signed w64 (cast_unsigned w64 z))))
signed_gives xs s a z fits f = subst (λ zs. Gives (steps_items xs) s a zs) (ap₂ (λ x y. x ∷ (y ∷ [])) (sym (signed_low z fits)) (sym (signed_high z fits))) (straight_gives xs s f.0 a _ f.1 f.2)

-- where the int stands there
behind : (s u : State) (a : ℕ) (z y : ℤ) → place_at s a ≡ z → Replaced s u (suc a) (y ∷ []) → Replaced s u a (z ∷ (y ∷ []))
behind s u a z y e d = record { places = d.places ∙ ap (λ zs. slice_set zs (suc a) y) (sym (set_same s.places a z e)); keys = d.keys; scores = d.scores }

sign_gives : (s : State) (a : ℕ) (z : ℤ) → FitsSigned w32 z → place_at s a ≡ z → suc a < length s.places → Gives (steps_items (sign_behind a)) s a (value_ints (values.I64 (cast_signed w64 (cast_unsigned w64 z))))
sign_gives s a z fits e l =
    let n = sign_does a s z e l in
    signed_gives (sign_behind a) s a z fits (n.0, n.1, behind s n.0 a z (sign_word z) e n.2)

extend32_does : (a : ℕ) → DoesOne (steps_items (sign_behind a)) a (λ n. gives kinds.I64 (iextend_s w32 w64 n))
extend32_does a s n h l p q = sign_gives s a (score (n % 4294967296)) (fits_score (n % 4294967296) (omega arith)) p l

-- the low half by a core, and its sign behind it
part_gives : (core : Spot → List Step) (s : State) (a : ℕ) (x z : ℤ) → MakesOne core x z → FitsSigned w32 z → place_at s a ≡ x → suc a < length s.places
    → Gives (steps_items (on_one a a core ++ sign_behind a)) s a (value_ints (values.I64 (cast_signed w64 (cast_unsigned w64 z))))
part_gives core s a x z m fits e l =
    let f = one_does core x z a a s m (omega arith) (omega arith) e in
    let t : State = f.0 in
    let p : t.places ≡ slice_set s.places a z = f.2.places in
    let long : length t.places ≡ length s.places = ap length p ∙ length-set s.places a z in
    let at : place_at t a ≡ z = ap (λ zs. slice_index_or zs a (pos 0)) p ∙ get_same s.places a z (omega arith) in
    let g = sign_does a t z at (subst (λ n. suc a < n) (sym long) l) in
    signed_gives (on_one a a core ++ sign_behind a) s a z fits (
      g.0,
      straight_append (on_one a a core) (sign_behind a) s t g.0 f.1 g.1,
      record {
        places = g.2.places ∙ ap (λ zs. slice_set zs (suc a) (sign_word z)) p;
        keys = λ i j d. g.2.keys i j d ∙ f.2.keys i j d;
        scores = λ h i j. g.2.scores h i j ∙ f.2.scores h i j;
      },
    )

-- what the lines make of a word
byte_lines_fit : steps_fit (signed_part (pos 256) (pos 128) (scratch (codes "#a"))) ≡ true
unfolding is_holder
byte_lines_fit = refl

half_lines_fit : steps_fit (signed_part (pos 65536) (pos 32768) (scratch (codes "#a"))) ≡ true
unfolding is_holder
half_lines_fit = refl

part_makes : (power half : ℕ) (m : ℕ) (z : ℤ) → steps_fit (signed_part (pos power) (pos half) (scratch (codes "#a"))) ≡ true
    → ((s : State) → pinned (signed_part (pos power) (pos half) (scratch (codes "#a"))) (with_first s (score m)) ≡ true)
    → part_of power half (score m) (rest_by (score m) (pos power)) ≡ z → MakesOne (signed_part (pos power) (pos half)) (score m) z
part_makes power half m z fits pin e =
    core_makes_one (signed_part (pos power) (pos half) (scratch (codes "#a"))) (score m) z
    (core_by_one (signed_part (pos power) (pos half) (scratch (codes "#a"))) (score m) z refl fits refl refl pin (λ s. ap Some e))

pub byte_makes : (m : ℕ) → m < 4294967296 → MakesOne (signed_part (pos 256) (pos 128)) (score m) (cast_signed w8 (m % 256))
byte_makes m h = part_makes 256 128 m (cast_signed w8 (m % 256)) byte_lines_fit (λ s. refl) (byte_part m h)

pub half_makes : (m : ℕ) → m < 4294967296 → MakesOne (signed_part (pos 65536) (pos 32768)) (score m) (cast_signed w16 (m % 65536))
half_makes m h = part_makes 65536 32768 m (cast_signed w16 (m % 65536)) half_lines_fit (λ s. refl) (half_part m h)

extend8_does : (a : ℕ) → DoesOne (unary_items Extend8S a) a (λ n. gives kinds.I64 (iextend_s w8 w64 n))
extend8_does a s n h l p q =
    let e : n % 4294967296 % 256 ≡ n % 256 = omega arith in
    let m = subst (λ k. MakesOne (signed_part (pos 256) (pos 128)) (score (n % 4294967296)) (cast_signed w8 k)) e (byte_makes (n % 4294967296) (omega arith)) in
    part_gives (signed_part (pos 256) (pos 128)) s a (score (n % 4294967296)) (cast_signed w8 (n % 256)) m (byte_fits (n % 256) (omega arith)) p l

extend16_does : (a : ℕ) → DoesOne (unary_items Extend16S a) a (λ n. gives kinds.I64 (iextend_s w16 w64 n))
extend16_does a s n h l p q =
    let e : n % 4294967296 % 65536 ≡ n % 65536 = omega arith in
    let m = subst (λ k. MakesOne (signed_part (pos 65536) (pos 32768)) (score (n % 4294967296)) (cast_signed w16 k)) e (half_makes (n % 4294967296) (omega arith)) in
    part_gives (signed_part (pos 65536) (pos 32768)) s a (score (n % 4294967296)) (cast_signed w16 (n % 65536)) m (half_fits (n % 65536) (omega arith)) p l

unary_performs : (op : UnaryOp) → is_extension op ≡ true → (a : ℕ) → From (Unary kinds.I64 op) (unary_items op a) a
unary_performs Clz k a = absurd cc
unary_performs Ctz k a = absurd cc
unary_performs Popcnt k a = absurd cc
unary_performs Extend8S k a = λ s vs o v p l e. one_long (unary_items Extend8S a) a (λ n. gives kinds.I64 (iextend_s w8 w64 n)) (extend8_does a) s vs o v p e
unary_performs Extend16S k a = λ s vs o v p l e. one_long (unary_items Extend16S a) a (λ n. gives kinds.I64 (iextend_s w16 w64 n)) (extend16_does a) s vs o v p e
unary_performs Extend32S k a = λ s vs o v p l e. one_long (unary_items Extend32S a) a (λ n. gives kinds.I64 (iextend_s w32 w64 n)) (extend32_does a) s vs o v p e

-- ---- extensions of ints

extend_s_does : (a : ℕ) → DoesInt (steps_items (sign_behind a)) a (λ n. gives kinds.I64 (extend_s w32 w64 n))
extend_s_does a s x ix p l =
    let e : x ≡ score (cast_unsigned w32 x) = sym (to_z-of_z w32 x (int_fits x ix)) in
    subst (λ z. Gives (steps_items (sign_behind a)) s a (value_ints (values.I64 (cast_signed w64 (cast_unsigned w64 z))))) e (sign_gives s a x (int_fits x ix) p (omega arith))

extend_u_does : (a : ℕ) → DoesInt (steps_items (zero_behind a)) a (λ n. gives kinds.I64 (extend_u w32 w64 n))
extend_u_does a s x ix p l =
    let h : cast_unsigned w32 x < 4294967296 = (of_z_fits w32 x (int_fits x ix)).fits in
    let f = zero_does a s (omega arith) in
    let zs : x ∷ (pos 0 ∷ []) ≡ value_ints (values.I64 (cast_signed w64 (cast_unsigned w32 x))) =
    ap₂ (λ x y. x ∷ (y ∷ [])) (sym (plain_low (cast_unsigned w32 x) h ∙ to_z-of_z w32 x (int_fits x ix))) (sym (plain_high (cast_unsigned w32 x) h)) in
    subst (λ ys. Gives (steps_items (zero_behind a)) s a ys) zs (straight_gives (zero_behind a) s f.0 a (x ∷ (pos 0 ∷ [])) f.1 (behind s f.0 a x (pos 0) p f.2))

-- ---- all

pub operator_performs : (q : Operator) → is_own q ≡ true → (a : ℕ) → From q (operator_items q a) a
operator_performs (Test kinds.I32) k a = absurd cc
operator_performs (Test kinds.I64) k a = λ s vs o v p l e. one_long (operator_items (Test kinds.I64) a) a (λ n. truth (ieqz w64 n)) (test_does a) s vs o v p e
operator_performs (Unary kinds.I32 op) k a = absurd cc
operator_performs (Unary kinds.I64 op) k a = unary_performs op k a
operator_performs (Binary kinds.I32 op) k a = absurd cc
operator_performs (Binary kinds.I64 op) k a = binary_performs op k a
operator_performs (Comparison kinds.I32 op) k a = absurd cc
operator_performs (Comparison kinds.I64 op) k a = compare_performs op a
operator_performs Wrap k a = λ s vs o v p l e. one_long no_more a (λ n. gives kinds.I32 (wrap w64 w32 n)) (wrap_does a) s vs o v p e
operator_performs ExtendS k a = λ s vs o v p l e. one_int (steps_items (sign_behind a)) a (λ n. gives kinds.I64 (extend_s w32 w64 n)) (extend_s_does a) s vs o v p l e
operator_performs ExtendU k a = λ s vs o v p l e. one_int (steps_items (zero_behind a)) a (λ n. gives kinds.I64 (extend_u w32 w64 n)) (extend_u_does a) s vs o v p l e
