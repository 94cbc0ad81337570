-- Each operation from a place on: that its items fit, and what they weigh.
use Rattle.std.proofs.Common.{◌≡◌, ℕ, suc, ◌+◌, ◌<◌, ◌≤◌, List, [], ◌∷◌, ◌++◌, Bool, true, false, refl, sym, subst, arith, codes}
use Rattle.std.specs.Prelude.{pos, negsuc, ◌-◌, if◌then◌else◌, nat_lt}
use Rattle.std.proofs.lemmas.Bool.{ltb-true, lt-ltb}
use Rattle.mc_nbt.specs.declared.value.Kind.TheVariants as kinds
use Rattle.mc_nbt.proofs.TestLemmas.{and_both}
use Rattle.mc_cmd.specs.Form.{Text}
use Rattle.mc_cmd.specs.Command.{execute, Cmp, less, less_equal, greater_equal, greater}
use Rattle.mc_cmd.specs.Word.{is_holder}
use Rattle.mc_cmd.specs.Chain.{cmd_weight}
use Rattle.wm_ast.specs.declared.operator.Operator.{Operator}
use Rattle.wm_ast.specs.declared.operator.Operator.TheVariants.{Test, Unary, Binary, Comparison, Wrap, ExtendS, ExtendU}
use Rattle.wm_ast.specs.declared.operator.UnaryOp.{UnaryOp}
use Rattle.wm_ast.specs.declared.operator.UnaryOp.TheVariants.{Clz, Ctz, Popcnt, Extend8S, Extend16S, Extend32S}
use Rattle.wm_ast.specs.declared.operator.BinaryOp.{BinaryOp}
use Rattle.wm_ast.specs.declared.operator.BinaryOp.TheVariants.{Add, Sub, Mul, DivS, DivU, RemS, RemU, And, Or, Xor, Shl, ShrS, ShrU, Rotl, Rotr}
use Rattle.wm_ast.specs.declared.operator.CompareOp.{CompareOp}
use Rattle.wm_ast.specs.declared.operator.CompareOp.TheVariants.{Eq, Ne, LtS, LtU, GtS, GtU, LeS, LeU, GeS, GeU}
use Rattle.cc_line.specs.Place.{score_places, Spot, scratch, placed, in_score, in_list}
use Rattle.cc_line.specs.Step.{Step, when, set_place, set_home, cond_subs, step_weight, steps_weight}
use Rattle.cc_line.specs.Fit.{place_fits, scratch_fits, spot_fits, steps_fit}
use Rattle.cc_line.specs.Core.{spot_of, fetch, bring_back, on_one}
use Rattle.cc_line.specs.Item.{steps_items, items_most, items_fit}
use Rattle.cc_line.proofs.CoreLemmas.{steps_weight-append}
use Rattle.cc_line.proofs.RenameLemmas.{steps_renamed}
use Rattle.cc_line.proofs.RunLemmas.{steps_most, steps_all_fit, steps_joined, join_most, join_fits}
use Rattle.cc_line.proofs.OnPlacesLemmas.{a_fits, b_fits, fit_append, spot_of_fits, fetch_fits, fetch_most, two_fit, one_fits, two_most, one_most, keep_most}
use Rattle.cc_line.proofs.WeightLemmas.{set_weighs}
use Rattle.cc_i64.specs.Pairs.{Core, sum, difference, agree, signed_order, unsigned_order, both_zero, signed_part, operands, on_spots, on_pairs, word_back, pair_back, negative, zero_behind, sign_lines, sign_behind}
use Rattle.cc_i64.specs.Operation.{unary_items, binary_items, compare_items, operator_items, unary_most, binary_most, compare_most, operator_most}
use Rattle.cc_i64.proofs.SeatLemmas.{seat, seat_fits}
use Rattle.cc_i64.proofs.PairPlaces.{Renames}
use Rattle.cc_i64.proofs.PairTurns.{on_scores, zero_makes}
use Rattle.cc_i64.proofs.OperationLemmas.{byte_makes, half_makes}

-- ---- they fit

place_below : (i j : ℕ) → i ≤ j → place_fits j ≡ true → place_fits i ≡ true
place_below i j l f = lt-ltb i 2147483648 (let g : j < 2147483648 = ltb-true j 2147483648 f in omega arith)

c_fits : scratch_fits (codes "#c") ≡ true
unfolding is_holder
c_fits = refl

d_fits : scratch_fits (codes "#d") ≡ true
unfolding is_holder
d_fits = refl

back_fits : (i : ℕ) (h : Text) → scratch_fits h ≡ true → place_fits i ≡ true → steps_fit (bring_back i (spot_of i h)) ≡ true
back_fits i h f g = go (nat_lt i score_places)
  where
    go : (b : Bool) → steps_fit (bring_back i (if b then placed i else scratch h)) ≡ true
    go true = refl
    go false = and_both _ _ (and_both _ _ g f) refl

-- four places from one on
record FourFit (a : ℕ) : Type 0 where
  first : place_fits a ≡ true
  second : place_fits (suc a) ≡ true
  third : place_fits (suc (suc a)) ≡ true
  fourth : place_fits (suc (suc (suc a))) ≡ true

four_fit : (a : ℕ) → place_fits (a + 3) ≡ true → FourFit a
four_fit a f = record {
  first = place_below a (a + 3) (omega arith) f;
  second = place_below (suc a) (a + 3) (omega arith) f;
  third = place_below (suc (suc a)) (a + 3) (omega arith) f;
  fourth = place_below (suc (suc (suc a))) (a + 3) (omega arith) f;
}

operands_fit : (a : ℕ) → FourFit a → steps_fit (operands a) ≡ true
operands_fit a f =
    fit_append (fetch a (codes "#a")) _ (fetch_fits a (codes "#a") a_fits f.first)
    (fit_append (fetch (suc a) (codes "#b")) _ (fetch_fits (suc a) (codes "#b") b_fits f.second)
    (fit_append (fetch (suc (suc a)) (codes "#c")) _ (fetch_fits (suc (suc a)) (codes "#c") c_fits f.third)
    (fetch_fits (suc (suc (suc a))) (codes "#d") d_fits f.fourth)))

word_back_fits : (a : ℕ) → FourFit a → steps_fit (word_back a) ≡ true
word_back_fits a f = back_fits a (codes "#a") a_fits f.first

pair_back_fits : (a : ℕ) → FourFit a → steps_fit (pair_back a) ≡ true
pair_back_fits a f = fit_append (word_back a) _ (word_back_fits a f) (back_fits (suc a) (codes "#b") b_fits f.second)

pairs_fit : (core : Core) (a : ℕ) (after : List Step) → Renames core → steps_fit (on_scores core) ≡ true → FourFit a → steps_fit after ≡ true → items_fit (steps_items (on_pairs a core after)) ≡ true
pairs_fit core a after names g f h =
    let s : steps_fit (on_spots a core) ≡ true = subst (λ xs. steps_fit xs ≡ true) (names a) (steps_renamed (seat a) (seat_fits a) (on_scores core) g) in
    steps_all_fit (on_pairs a core after) (fit_append (operands a) _ (operands_fit a f) (fit_append (on_spots a core) after s h))

sum_fits : steps_fit (on_scores sum) ≡ true
unfolding is_holder
sum_fits = refl

difference_fits : steps_fit (on_scores difference) ≡ true
unfolding is_holder
difference_fits = refl

eq_fits : steps_fit (on_scores (agree (pos 1) (pos 0))) ≡ true
unfolding is_holder
eq_fits = refl

ne_fits : steps_fit (on_scores (agree (pos 0) (pos 1))) ≡ true
unfolding is_holder
ne_fits = refl

signed_fits : (high low : Cmp) → steps_fit (on_scores (signed_order high low)) ≡ true
unfolding is_holder
signed_fits high low = refl

unsigned_fits : (high low : Cmp) → steps_fit (on_scores (unsigned_order high low)) ≡ true
unfolding is_holder
unsigned_fits high low = refl

sign_fits : (a : ℕ) → FourFit a → steps_fit (sign_behind a) ≡ true
sign_fits a f =
    fit_append (fetch a (codes "#a")) (sign_lines a) (fetch_fits a (codes "#a") a_fits f.first)
    (and_both _ _ (and_both _ _ f.second refl)
    (and_both _ _ (and_both _ _ (and_both _ _ (and_both _ _ (and_both _ _ (spot_of_fits a (codes "#a") a_fits) refl) refl) refl) (and_both _ _ f.second refl)) refl))

part_fits : (core : Spot → List Step) (a : ℕ) → ((x : Spot) → spot_fits x ≡ true → steps_fit (core x) ≡ true) → FourFit a → items_fit (steps_items (on_one a a core ++ sign_behind a)) ≡ true
part_fits core a g f =
    subst (λ xs. items_fit xs ≡ true) (sym (steps_joined (on_one a a core) (sign_behind a)))
    (join_fits (steps_items (on_one a a core)) (steps_items (sign_behind a)) (one_fits core a a g f.first f.first) (steps_all_fit (sign_behind a) (sign_fits a f)))

unary_fits : (op : UnaryOp) (a : ℕ) → FourFit a → items_fit (unary_items op a) ≡ true
unary_fits Clz a f = refl
unary_fits Ctz a f = refl
unary_fits Popcnt a f = refl
unary_fits Extend8S a f = part_fits (signed_part (pos 256) (pos 128)) a (byte_makes 0 (omega arith)).fits f
unary_fits Extend16S a f = part_fits (signed_part (pos 65536) (pos 32768)) a (half_makes 0 (omega arith)).fits f
unary_fits Extend32S a f = steps_all_fit (sign_behind a) (sign_fits a f)

binary_fits : (op : BinaryOp) (a : ℕ) → FourFit a → items_fit (binary_items op a) ≡ true
binary_fits Add a f = pairs_fit sum a (pair_back a) (λ a. refl) sum_fits f (pair_back_fits a f)
binary_fits Sub a f = pairs_fit difference a (pair_back a) (λ a. refl) difference_fits f (pair_back_fits a f)
binary_fits Mul a f = refl
binary_fits DivS a f = refl
binary_fits DivU a f = refl
binary_fits RemS a f = refl
binary_fits RemU a f = refl
binary_fits And a f = refl
binary_fits Or a f = refl
binary_fits Xor a f = refl
binary_fits Shl a f = refl
binary_fits ShrS a f = refl
binary_fits ShrU a f = refl
binary_fits Rotl a f = refl
binary_fits Rotr a f = refl

compare_fits : (op : CompareOp) (a : ℕ) → FourFit a → items_fit (compare_items op a) ≡ true
compare_fits Eq a f = pairs_fit (agree (pos 1) (pos 0)) a (word_back a) (λ a. refl) eq_fits f (word_back_fits a f)
compare_fits Ne a f = pairs_fit (agree (pos 0) (pos 1)) a (word_back a) (λ a. refl) ne_fits f (word_back_fits a f)
compare_fits LtS a f = pairs_fit (signed_order less less) a (word_back a) (λ a. refl) (signed_fits less less) f (word_back_fits a f)
compare_fits LtU a f = pairs_fit (unsigned_order less less) a (word_back a) (λ a. refl) (unsigned_fits less less) f (word_back_fits a f)
compare_fits GtS a f = pairs_fit (signed_order greater greater) a (word_back a) (λ a. refl) (signed_fits greater greater) f (word_back_fits a f)
compare_fits GtU a f = pairs_fit (unsigned_order greater greater) a (word_back a) (λ a. refl) (unsigned_fits greater greater) f (word_back_fits a f)
compare_fits LeS a f = pairs_fit (signed_order less less_equal) a (word_back a) (λ a. refl) (signed_fits less less_equal) f (word_back_fits a f)
compare_fits LeU a f = pairs_fit (unsigned_order less less_equal) a (word_back a) (λ a. refl) (unsigned_fits less less_equal) f (word_back_fits a f)
compare_fits GeS a f = pairs_fit (signed_order greater greater_equal) a (word_back a) (λ a. refl) (signed_fits greater greater_equal) f (word_back_fits a f)
compare_fits GeU a f = pairs_fit (unsigned_order greater greater_equal) a (word_back a) (λ a. refl) (unsigned_fits greater greater_equal) f (word_back_fits a f)

all_fit : (q : Operator) (a : ℕ) → FourFit a → items_fit (operator_items q a) ≡ true
all_fit (Test kinds.I32) a f = refl
all_fit (Test kinds.I64) a f = two_fit both_zero a (suc a) a (zero_makes 0 (omega arith)).fits f.first f.second f.first
all_fit (Unary kinds.I32 op) a f = refl
all_fit (Unary kinds.I64 op) a f = unary_fits op a f
all_fit (Binary kinds.I32 op) a f = refl
all_fit (Binary kinds.I64 op) a f = binary_fits op a f
all_fit (Comparison kinds.I32 op) a f = refl
all_fit (Comparison kinds.I64 op) a f = compare_fits op a f
all_fit Wrap a f = refl
all_fit ExtendS a f = steps_all_fit (sign_behind a) (sign_fits a f)
all_fit ExtendU a f = steps_all_fit (zero_behind a) (and_both _ _ (and_both _ _ f.second refl) refl)

pub operator_fits : (q : Operator) (a : ℕ) → place_fits (a + 3) ≡ true → items_fit (operator_items q a) ≡ true
operator_fits q a f = all_fit q a (four_fit a f)

-- ---- what they weigh

back_most : (i : ℕ) (h : Text) → steps_weight (bring_back i (spot_of i h)) ≤ 2
back_most i h = go (nat_lt i score_places)
  where
    go : (b : Bool) → steps_weight (bring_back i (if b then placed i else scratch h)) ≤ 2
    go true = omega arith
    go false = let l = keep_most i h in omega arith

operands_most : (a : ℕ) → steps_weight (operands a) ≤ 8
operands_most a =
    let p = steps_weight-append (fetch a (codes "#a")) (fetch (suc a) (codes "#b") ++ (fetch (suc (suc a)) (codes "#c") ++ fetch (suc (suc (suc a))) (codes "#d"))) in
    let q = steps_weight-append (fetch (suc a) (codes "#b")) (fetch (suc (suc a)) (codes "#c") ++ fetch (suc (suc (suc a))) (codes "#d")) in
    let r = steps_weight-append (fetch (suc (suc a)) (codes "#c")) (fetch (suc (suc (suc a))) (codes "#d")) in
    let i = fetch_most a (codes "#a") in
    let j = fetch_most (suc a) (codes "#b") in
    let k = fetch_most (suc (suc a)) (codes "#c") in
    let l = fetch_most (suc (suc (suc a))) (codes "#d") in
    omega arith

word_back_most : (a : ℕ) → steps_weight (word_back a) ≤ 2
word_back_most a = back_most a (codes "#a")

pair_back_most : (a : ℕ) → steps_weight (pair_back a) ≤ 4
pair_back_most a =
    let p = steps_weight-append (word_back a) (bring_back (suc a) (spot_of (suc a) (codes "#b"))) in
    let i = word_back_most a in
    let j = back_most (suc a) (codes "#b") in
    omega arith

pairs_most : (core : Core) (a : ℕ) (after : List Step) (n k : ℕ) → ((x y z w : Spot) → steps_weight (core x y z w) ≡ n) → steps_weight after ≤ k → items_most (steps_items (on_pairs a core after)) ≤ 8 + n + k
pairs_most core a after n k m l =
    let p = steps_weight-append (operands a) (on_spots a core ++ after) in
    let q = steps_weight-append (on_spots a core) after in
    let o = operands_most a in
    let e = m (spot_of a (codes "#a")) (spot_of (suc a) (codes "#b")) (spot_of (suc (suc a)) (codes "#c")) (spot_of (suc (suc (suc a))) (codes "#d")) in
    subst (λ i. i ≤ 8 + n + k) (sym (steps_most (on_pairs a core after))) (omega arith)

minus_weighs : (a : ℕ) → step_weight (when (negative (spot_of a (codes "#a")) ∷ []) (set_place (suc a) (negsuc 0))) ≡ 2
minus_weighs a = go (nat_lt (suc a) score_places)
  where
    go : (b : Bool) → cmd_weight (execute (cond_subs [] (negative (spot_of a (codes "#a")) ∷ []) ++ (set_home [] (if b then in_score (suc a) else in_list (suc a - score_places)) (negsuc 0)).stores) (set_home [] (if b then in_score (suc a) else in_list (suc a - score_places)) (negsuc 0)).simple) ≡ 2
    go true = refl
    go false = refl

sign_most : (a : ℕ) → items_most (steps_items (sign_behind a)) ≤ 5
sign_most a =
    let p = steps_weight-append (fetch a (codes "#a")) (sign_lines a) in
    let f = fetch_most a (codes "#a") in
    let z = set_weighs (suc a) (pos 0) in
    let m = minus_weighs a in
    subst (λ i. i ≤ 5) (sym (steps_most (sign_behind a))) (omega arith)

part_most : (core : Spot → List Step) (a : ℕ) → ((x : Spot) → steps_weight (core x) ≡ 4) → items_most (steps_items (on_one a a core ++ sign_behind a)) ≤ 13
part_most core a m =
    let p = join_most (steps_items (on_one a a core)) (steps_items (sign_behind a)) in
    let i = one_most core a a 4 m in
    let j = sign_most a in
    subst (λ xs. items_most xs ≤ 13) (sym (steps_joined (on_one a a core) (sign_behind a))) (omega arith)

nothing_weighs : 0 ≤ 0
nothing_weighs = omega arith

unary_weighs : (op : UnaryOp) (a : ℕ) → items_most (unary_items op a) ≤ unary_most op
unary_weighs Clz a = nothing_weighs
unary_weighs Ctz a = nothing_weighs
unary_weighs Popcnt a = nothing_weighs
unary_weighs Extend8S a = part_most (signed_part (pos 256) (pos 128)) a (λ x. refl)
unary_weighs Extend16S a = part_most (signed_part (pos 65536) (pos 32768)) a (λ x. refl)
unary_weighs Extend32S a = sign_most a

binary_weighs : (op : BinaryOp) (a : ℕ) → items_most (binary_items op a) ≤ binary_most op
binary_weighs Add a = pairs_most sum a (pair_back a) 8 4 (λ x y z w. refl) (pair_back_most a)
binary_weighs Sub a = pairs_most difference a (pair_back a) 8 4 (λ x y z w. refl) (pair_back_most a)
binary_weighs Mul a = nothing_weighs
binary_weighs DivS a = nothing_weighs
binary_weighs DivU a = nothing_weighs
binary_weighs RemS a = nothing_weighs
binary_weighs RemU a = nothing_weighs
binary_weighs And a = nothing_weighs
binary_weighs Or a = nothing_weighs
binary_weighs Xor a = nothing_weighs
binary_weighs Shl a = nothing_weighs
binary_weighs ShrS a = nothing_weighs
binary_weighs ShrU a = nothing_weighs
binary_weighs Rotl a = nothing_weighs
binary_weighs Rotr a = nothing_weighs

compare_weighs : (op : CompareOp) (a : ℕ) → items_most (compare_items op a) ≤ compare_most op
compare_weighs Eq a = pairs_most (agree (pos 1) (pos 0)) a (word_back a) 4 2 (λ x y z w. refl) (word_back_most a)
compare_weighs Ne a = pairs_most (agree (pos 0) (pos 1)) a (word_back a) 4 2 (λ x y z w. refl) (word_back_most a)
compare_weighs LtS a = pairs_most (signed_order less less) a (word_back a) 9 2 (λ x y z w. refl) (word_back_most a)
compare_weighs LtU a = pairs_most (unsigned_order less less) a (word_back a) 13 2 (λ x y z w. refl) (word_back_most a)
compare_weighs GtS a = pairs_most (signed_order greater greater) a (word_back a) 9 2 (λ x y z w. refl) (word_back_most a)
compare_weighs GtU a = pairs_most (unsigned_order greater greater) a (word_back a) 13 2 (λ x y z w. refl) (word_back_most a)
compare_weighs LeS a = pairs_most (signed_order less less_equal) a (word_back a) 9 2 (λ x y z w. refl) (word_back_most a)
compare_weighs LeU a = pairs_most (unsigned_order less less_equal) a (word_back a) 13 2 (λ x y z w. refl) (word_back_most a)
compare_weighs GeS a = pairs_most (signed_order greater greater_equal) a (word_back a) 9 2 (λ x y z w. refl) (word_back_most a)
compare_weighs GeU a = pairs_most (unsigned_order greater greater_equal) a (word_back a) 13 2 (λ x y z w. refl) (word_back_most a)

pub operator_weighs : (q : Operator) (a : ℕ) → items_most (operator_items q a) ≤ operator_most q
operator_weighs (Test kinds.I32) a = nothing_weighs
operator_weighs (Test kinds.I64) a = two_most both_zero a (suc a) a 5 (λ x y. refl)
operator_weighs (Unary kinds.I32 op) a = nothing_weighs
operator_weighs (Unary kinds.I64 op) a = unary_weighs op a
operator_weighs (Binary kinds.I32 op) a = nothing_weighs
operator_weighs (Binary kinds.I64 op) a = binary_weighs op a
operator_weighs (Comparison kinds.I32 op) a = nothing_weighs
operator_weighs (Comparison kinds.I64 op) a = compare_weighs op a
operator_weighs Wrap a = nothing_weighs
operator_weighs ExtendS a = sign_most a
operator_weighs ExtendU a = let z = set_weighs (suc a) (pos 0) in omega arith

-- none weighs more than the heaviest
unary_little : (op : UnaryOp) → unary_most op ≤ 23
unary_little Clz = omega arith
unary_little Ctz = omega arith
unary_little Popcnt = omega arith
unary_little Extend8S = omega arith
unary_little Extend16S = omega arith
unary_little Extend32S = omega arith

binary_little : (op : BinaryOp) → binary_most op ≤ 23
binary_little Add = omega arith
binary_little Sub = omega arith
binary_little Mul = omega arith
binary_little DivS = omega arith
binary_little DivU = omega arith
binary_little RemS = omega arith
binary_little RemU = omega arith
binary_little And = omega arith
binary_little Or = omega arith
binary_little Xor = omega arith
binary_little Shl = omega arith
binary_little ShrS = omega arith
binary_little ShrU = omega arith
binary_little Rotl = omega arith
binary_little Rotr = omega arith

compare_little : (op : CompareOp) → compare_most op ≤ 23
compare_little Eq = omega arith
compare_little Ne = omega arith
compare_little LtS = omega arith
compare_little LtU = omega arith
compare_little GtS = omega arith
compare_little GtU = omega arith
compare_little LeS = omega arith
compare_little LeU = omega arith
compare_little GeS = omega arith
compare_little GeU = omega arith

pub operator_little : (q : Operator) → operator_most q ≤ 23
operator_little (Test kinds.I32) = omega arith
operator_little (Test kinds.I64) = omega arith
operator_little (Unary kinds.I32 op) = omega arith
operator_little (Unary kinds.I64 op) = unary_little op
operator_little (Binary kinds.I32 op) = omega arith
operator_little (Binary kinds.I64 op) = binary_little op
operator_little (Comparison kinds.I32 op) = omega arith
operator_little (Comparison kinds.I64 op) = compare_little op
operator_little Wrap = omega arith
operator_little ExtendS = omega arith
operator_little ExtendU = omega arith
