-- Each operation on places: what its items perform, that they fit, and what they weigh.
use Rattle.std.proofs.Common.{◌≡◌, ℕ, ◌+◌, ◌<◌, ◌≤◌, [], ◌∷◌, length, ℤ, pos, Some, true, refl, sym, ◌∙◌, subst, arith, codes, List}
use Rattle.std.specs.Int.{w32}
use mir.ValLaws.{of_z_fits}
use Rattle.mc_nbt.proofs.TestLemmas.{some_same, and_both}
use Rattle.mc_nbt.specs.Word.{is_int}
use Rattle.mc_nbt.specs.declared.value.Kind.TheVariants.{I32, I64}
use Rattle.mc_nbt.specs.declared.value.Value.TheVariants as values
use Rattle.mc_cmd.specs.Command.{less, less_equal, equal, greater_equal, greater}
use Rattle.mc_cmd.specs.Form.{Text}
use Rattle.mc_cmd.specs.Word.{is_holder}
use Rattle.wm_ast.specs.declared.answer.Answer.{Answer}
use Rattle.wm_ast.specs.declared.answer.Answer.TheVariants as answers
use Rattle.wm_ast.specs.declared.operator.Operator.{Operator}
use Rattle.wm_ast.specs.declared.operator.Operator.TheVariants.{Test, Unary, Binary, Comparison, Wrap, ExtendS, ExtendU}
use Rattle.wm_ast.specs.declared.operator.BinaryOp.{BinaryOp}
use Rattle.wm_ast.specs.declared.operator.BinaryOp.TheVariants.{Add, Sub, Mul, DivS, DivU, RemS, RemU, And, Or, Xor, Shl, ShrS, ShrU, Rotl, Rotr}
use Rattle.wm_ast.specs.declared.operator.CompareOp.{CompareOp}
use Rattle.wm_ast.specs.declared.operator.CompareOp.TheVariants.{Eq, Ne, LtS, LtU, GtS, GtU, LeS, LeU, GeS, GeU}
use Rattle.wm_ast.specs.Integer.{Outcome, iadd, isub, imul, idiv_s, idiv_u, irem_s, irem_u, ieqz, ieq, ine, ilt_s, ilt_u, igt_s, igt_u, ile_s, ile_u, ige_s, ige_u}
use Rattle.wm_ast.specs.Apply.{operate, outcome}
use Rattle.cc_line.specs.Place.{Spot}
use Rattle.cc_line.specs.State.{State, place_at}
use Rattle.cc_line.specs.Step.{Step, keep_place, run_act}
use Rattle.cc_line.specs.Fit.{place_fits, scratch_fits}
use Rattle.cc_line.specs.Core.{Makes, on_two, on_one}
use Rattle.cc_line.specs.Item.{Items, no_more, first, step_item, steps_items, items_most, items_fit}
use Rattle.cc_line.specs.Routine.{Performs, outcome_of}
use Rattle.cc_line.proofs.OnPlacesLemmas.{two_give, one_gives, two_fit, one_fits, two_most, one_most, load_most, keep_most}
use Rattle.cc_line.proofs.RunLemmas.{join_most, join_fits}
use Rattle.cc_line.proofs.Words.{score, int_fits}
use Rattle.cc_i32.specs.Light.{sum, difference, product, is_zero, compares, differ, compares_unsigned}
use Rattle.cc_i32.specs.Division.{on_scratch, quotient_s, rest_s, div_s, rem_s, quotient_u, rest_u, div_u, rem_u}
use Rattle.cc_i32.specs.Operation.{is_arithmetic, takes_two, takes_one, binary_items, compare_items, operator_items, binary_most, compare_most, operator_most}
use Rattle.cc_i32.proofs.LightLemmas.{word, score_word, truth_of, sum_makes, difference_makes, product_makes, is_zero_makes, eq_makes, ne_makes, lt_s_makes, gt_s_makes, le_s_makes, ge_s_makes, lt_u_makes, gt_u_makes, le_u_makes, ge_u_makes}
use Rattle.cc_i32.proofs.DivisionLemmas.{Divides, div_s_performs, rem_s_performs, div_u_performs, rem_u_performs}

-- items that do an operator of two i32 operands, and of one
abbrev Two : Operator → Items → ℕ → ℕ → ℕ → Type 0
Two q xs a b r =
    (s : State) (x y : ℤ) (o : Answer) → a < length s.places → b < length s.places → r < length s.places
    → place_at s a ≡ x → place_at s b ≡ y → is_int x ≡ true → is_int y ≡ true
    → operate q (values.I32 x ∷ (values.I32 y ∷ [])) ≡ Some o → Performs xs s r (outcome_of o)

abbrev One : Operator → Items → ℕ → ℕ → Type 0
One q xs a r =
    (s : State) (x : ℤ) (o : Answer) → a < length s.places → r < length s.places → place_at s a ≡ x → is_int x ≡ true
    → operate q (values.I32 x ∷ []) ≡ Some o → Performs xs s r (outcome_of o)

by_core : (q : Operator) (core : Spot → Spot → List Step) (f : ℕ → ℕ → ℤ) → ((x y : ℤ) → operate q (values.I32 x ∷ (values.I32 y ∷ [])) ≡ Some (answers.Value (values.I32 (f (word x) (word y)))))
    → ((x y : ℤ) → is_int x ≡ true → is_int y ≡ true → Makes core x y (f (word x) (word y))) → (a b r : ℕ) → Two q (steps_items (on_two a b r core)) a b r
by_core q core f is makes a b r s x y o la lb lr ex ey ix iy e =
    subst (λ o. Performs (steps_items (on_two a b r core)) s r (outcome_of o)) (some_same _ _ (sym (is x y) ∙ e))
    (two_give core x y (f (word x) (word y)) a b r s (makes x y ix iy) la lb lr ex ey)

by_division : (q : Operator) (items : ℕ → ℕ → ℕ → Items) (op : ℕ → ℕ → Outcome) → ((x y : ℤ) → operate q (values.I32 x ∷ (values.I32 y ∷ [])) ≡ Some (outcome I32 (op (word x) (word y)))) → Divides items op
    → (a b r : ℕ) → Two q (items a b r) a b r
by_division q items op is divides a b r s x y o la lb lr ex ey ix iy e =
    subst (λ o. Performs (items a b r) s r (outcome_of o)) (some_same _ _ (sym (is x y) ∙ e))
    (divides a b r s la lb lr (word x) (word y) (of_z_fits w32 x (int_fits x ix)).fits (of_z_fits w32 y (int_fits y iy)).fits (ex ∙ sym (score_word x ix)) (ey ∙ sym (score_word y iy)))

binary_performs : (op : BinaryOp) → is_arithmetic op ≡ true → (a b r : ℕ) → Two (Binary I32 op) (binary_items op a b r) a b r
binary_performs Add k = by_core (Binary I32 Add) sum (λ m n. score (iadd w32 m n)) (λ x y. refl) sum_makes
binary_performs Sub k = by_core (Binary I32 Sub) difference (λ m n. score (isub w32 m n)) (λ x y. refl) difference_makes
binary_performs Mul k = by_core (Binary I32 Mul) product (λ m n. score (imul w32 m n)) (λ x y. refl) product_makes
binary_performs DivS k = by_division (Binary I32 DivS) div_s (idiv_s w32) (λ x y. refl) div_s_performs
binary_performs DivU k = by_division (Binary I32 DivU) div_u (idiv_u w32) (λ x y. refl) div_u_performs
binary_performs RemS k = by_division (Binary I32 RemS) rem_s (irem_s w32) (λ x y. refl) rem_s_performs
binary_performs RemU k = by_division (Binary I32 RemU) rem_u (irem_u w32) (λ x y. refl) rem_u_performs
binary_performs And k = absurd cc
binary_performs Or k = absurd cc
binary_performs Xor k = absurd cc
binary_performs Shl k = absurd cc
binary_performs ShrS k = absurd cc
binary_performs ShrU k = absurd cc
binary_performs Rotl k = absurd cc
binary_performs Rotr k = absurd cc

compare_performs : (op : CompareOp) (a b r : ℕ) → Two (Comparison I32 op) (compare_items op a b r) a b r
compare_performs Eq = by_core (Comparison I32 Eq) (compares equal) (λ m n. truth_of (ieq w32 m n)) (λ x y. refl) eq_makes
compare_performs Ne = by_core (Comparison I32 Ne) differ (λ m n. truth_of (ine w32 m n)) (λ x y. refl) ne_makes
compare_performs LtS = by_core (Comparison I32 LtS) (compares less) (λ m n. truth_of (ilt_s w32 m n)) (λ x y. refl) lt_s_makes
compare_performs LtU = by_core (Comparison I32 LtU) (compares_unsigned less) (λ m n. truth_of (ilt_u w32 m n)) (λ x y. refl) lt_u_makes
compare_performs GtS = by_core (Comparison I32 GtS) (compares greater) (λ m n. truth_of (igt_s w32 m n)) (λ x y. refl) gt_s_makes
compare_performs GtU = by_core (Comparison I32 GtU) (compares_unsigned greater) (λ m n. truth_of (igt_u w32 m n)) (λ x y. refl) gt_u_makes
compare_performs LeS = by_core (Comparison I32 LeS) (compares less_equal) (λ m n. truth_of (ile_s w32 m n)) (λ x y. refl) le_s_makes
compare_performs LeU = by_core (Comparison I32 LeU) (compares_unsigned less_equal) (λ m n. truth_of (ile_u w32 m n)) (λ x y. refl) le_u_makes
compare_performs GeS = by_core (Comparison I32 GeS) (compares greater_equal) (λ m n. truth_of (ige_s w32 m n)) (λ x y. refl) ge_s_makes
compare_performs GeU = by_core (Comparison I32 GeU) (compares_unsigned greater_equal) (λ m n. truth_of (ige_u w32 m n)) (λ x y. refl) ge_u_makes

pub two_performs : (q : Operator) → takes_two q ≡ true → (a b r : ℕ) → Two q (operator_items q a b r) a b r
two_performs (Test k) t = absurd cc
two_performs (Unary k op) t = absurd cc
two_performs (Binary I32 op) t = binary_performs op t
two_performs (Binary I64 op) t = absurd cc
two_performs (Comparison I32 op) t = compare_performs op
two_performs (Comparison I64 op) t = absurd cc
two_performs Wrap t = absurd cc
two_performs ExtendS t = absurd cc
two_performs ExtendU t = absurd cc

pub one_performs : (q : Operator) → takes_one q ≡ true → (a b r : ℕ) → One q (operator_items q a b r) a r
one_performs (Test I32) t a b r = λ s x o la lr ex ix e.
    subst (λ o. Performs (steps_items (on_one a r is_zero)) s r (outcome_of o)) (some_same _ _ e) (one_gives is_zero x (truth_of (ieqz w32 (word x))) a r s (is_zero_makes x ix) la lr ex)
one_performs (Test I64) t a b r = absurd cc
one_performs (Unary k op) t a b r = absurd cc
one_performs (Binary k op) t a b r = absurd cc
one_performs (Comparison k op) t a b r = absurd cc
one_performs Wrap t a b r = absurd cc
one_performs ExtendS t a b r = absurd cc
one_performs ExtendU t a b r = absurd cc

-- ---- they fit

scratch_fit : (a b r : ℕ) (h : Text) (xs : Items) → scratch_fits h ≡ true → items_fit xs ≡ true → place_fits a ≡ true → place_fits b ≡ true → place_fits r ≡ true → items_fit (on_scratch a b r h xs) ≡ true
unfolding is_holder
scratch_fit a b r h xs fh f fa fb fr = and_both _ _ fa (and_both _ _ fb (join_fits xs (first (step_item (run_act (keep_place r h))) no_more) f (and_both _ _ (and_both _ _ fr fh) refl)))

abbrev Fit : Items → ℕ → ℕ → ℕ → Type 0
Fit xs a b r = place_fits a ≡ true → place_fits b ≡ true → place_fits r ≡ true → items_fit xs ≡ true

binary_fit : (op : BinaryOp) (a b r : ℕ) → Fit (binary_items op a b r) a b r
unfolding is_holder
binary_fit Add a b r = two_fit sum a b r (sum_makes (pos 0) (pos 0) refl refl).fits
binary_fit Sub a b r = two_fit difference a b r (difference_makes (pos 0) (pos 0) refl refl).fits
binary_fit Mul a b r = two_fit product a b r (product_makes (pos 0) (pos 0) refl refl).fits
binary_fit DivS a b r = scratch_fit a b r (codes "#c") quotient_s refl refl
binary_fit DivU a b r = scratch_fit a b r (codes "#d") quotient_u refl refl
binary_fit RemS a b r = scratch_fit a b r (codes "#c") rest_s refl refl
binary_fit RemU a b r = scratch_fit a b r (codes "#d") rest_u refl refl
binary_fit And a b r = λ fa fb fr. refl
binary_fit Or a b r = λ fa fb fr. refl
binary_fit Xor a b r = λ fa fb fr. refl
binary_fit Shl a b r = λ fa fb fr. refl
binary_fit ShrS a b r = λ fa fb fr. refl
binary_fit ShrU a b r = λ fa fb fr. refl
binary_fit Rotl a b r = λ fa fb fr. refl
binary_fit Rotr a b r = λ fa fb fr. refl

compare_fit : (op : CompareOp) (a b r : ℕ) → Fit (compare_items op a b r) a b r
compare_fit Eq a b r = two_fit (compares equal) a b r (eq_makes (pos 0) (pos 0) refl refl).fits
compare_fit Ne a b r = two_fit differ a b r (ne_makes (pos 0) (pos 0) refl refl).fits
compare_fit LtS a b r = two_fit (compares less) a b r (lt_s_makes (pos 0) (pos 0) refl refl).fits
compare_fit LtU a b r = two_fit (compares_unsigned less) a b r (lt_u_makes (pos 0) (pos 0) refl refl).fits
compare_fit GtS a b r = two_fit (compares greater) a b r (gt_s_makes (pos 0) (pos 0) refl refl).fits
compare_fit GtU a b r = two_fit (compares_unsigned greater) a b r (gt_u_makes (pos 0) (pos 0) refl refl).fits
compare_fit LeS a b r = two_fit (compares less_equal) a b r (le_s_makes (pos 0) (pos 0) refl refl).fits
compare_fit LeU a b r = two_fit (compares_unsigned less_equal) a b r (le_u_makes (pos 0) (pos 0) refl refl).fits
compare_fit GeS a b r = two_fit (compares greater_equal) a b r (ge_s_makes (pos 0) (pos 0) refl refl).fits
compare_fit GeU a b r = two_fit (compares_unsigned greater_equal) a b r (ge_u_makes (pos 0) (pos 0) refl refl).fits

pub operator_fits : (q : Operator) (a b r : ℕ) → Fit (operator_items q a b r) a b r
operator_fits (Test I32) a b r fa fb fr = one_fits is_zero a r (is_zero_makes (pos 0) refl).fits fa fr
operator_fits (Test I64) a b r fa fb fr = refl
operator_fits (Unary k op) a b r fa fb fr = refl
operator_fits (Binary I32 op) a b r fa fb fr = binary_fit op a b r fa fb fr
operator_fits (Binary I64 op) a b r fa fb fr = refl
operator_fits (Comparison I32 op) a b r fa fb fr = compare_fit op a b r fa fb fr
operator_fits (Comparison I64 op) a b r fa fb fr = refl
operator_fits Wrap a b r fa fb fr = refl
operator_fits ExtendS a b r fa fb fr = refl
operator_fits ExtendU a b r fa fb fr = refl

-- ---- what they weigh

scratch_most : (a b r : ℕ) (h : Text) (xs : Items) → items_most (on_scratch a b r h xs) ≤ items_most xs + 6
scratch_most a b r h xs =
    let e = join_most xs (first (step_item (run_act (keep_place r h))) no_more) in
    let p = load_most (codes "#a") a in
    let q = load_most (codes "#b") b in
    let k = keep_most r h in
    omega arith

nothing_weighs : 0 ≤ 0
nothing_weighs = omega arith

binary_weighs : (op : BinaryOp) (a b r : ℕ) → items_most (binary_items op a b r) ≤ binary_most op
binary_weighs Add a b r = two_most sum a b r 1 (λ x y. refl)
binary_weighs Sub a b r = two_most difference a b r 1 (λ x y. refl)
binary_weighs Mul a b r = two_most product a b r 1 (λ x y. refl)
binary_weighs DivS a b r = scratch_most a b r (codes "#c") quotient_s
binary_weighs DivU a b r = scratch_most a b r (codes "#d") quotient_u
binary_weighs RemS a b r = scratch_most a b r (codes "#c") rest_s
binary_weighs RemU a b r = scratch_most a b r (codes "#d") rest_u
binary_weighs And a b r = nothing_weighs
binary_weighs Or a b r = nothing_weighs
binary_weighs Xor a b r = nothing_weighs
binary_weighs Shl a b r = nothing_weighs
binary_weighs ShrS a b r = nothing_weighs
binary_weighs ShrU a b r = nothing_weighs
binary_weighs Rotl a b r = nothing_weighs
binary_weighs Rotr a b r = nothing_weighs

compare_weighs : (op : CompareOp) (a b r : ℕ) → items_most (compare_items op a b r) ≤ compare_most op
compare_weighs Eq a b r = two_most (compares equal) a b r 4 (λ x y. refl)
compare_weighs Ne a b r = two_most differ a b r 4 (λ x y. refl)
compare_weighs LtS a b r = two_most (compares less) a b r 4 (λ x y. refl)
compare_weighs LtU a b r = two_most (compares_unsigned less) a b r 7 (λ x y. refl)
compare_weighs GtS a b r = two_most (compares greater) a b r 4 (λ x y. refl)
compare_weighs GtU a b r = two_most (compares_unsigned greater) a b r 7 (λ x y. refl)
compare_weighs LeS a b r = two_most (compares less_equal) a b r 4 (λ x y. refl)
compare_weighs LeU a b r = two_most (compares_unsigned less_equal) a b r 7 (λ x y. refl)
compare_weighs GeS a b r = two_most (compares greater_equal) a b r 4 (λ x y. refl)
compare_weighs GeU a b r = two_most (compares_unsigned greater_equal) a b r 7 (λ x y. refl)

pub operator_weighs : (q : Operator) (a b r : ℕ) → items_most (operator_items q a b r) ≤ operator_most q
operator_weighs (Test I32) a b r = one_most is_zero a r 3 (λ x. refl)
operator_weighs (Test I64) a b r = nothing_weighs
operator_weighs (Unary k op) a b r = nothing_weighs
operator_weighs (Binary I32 op) a b r = binary_weighs op a b r
operator_weighs (Binary I64 op) a b r = nothing_weighs
operator_weighs (Comparison I32 op) a b r = compare_weighs op a b r
operator_weighs (Comparison I64 op) a b r = nothing_weighs
operator_weighs Wrap a b r = nothing_weighs
operator_weighs ExtendS a b r = nothing_weighs
operator_weighs ExtendU a b r = nothing_weighs

-- none weighs more than the heaviest
binary_little : (op : BinaryOp) → binary_most op ≤ 34
binary_little Add = omega arith
binary_little Sub = omega arith
binary_little Mul = omega arith
binary_little DivS = omega arith
binary_little DivU = omega arith
binary_little RemS = omega arith
binary_little RemU = omega arith
binary_little And = omega arith
binary_little Or = omega arith
binary_little Xor = omega arith
binary_little Shl = omega arith
binary_little ShrS = omega arith
binary_little ShrU = omega arith
binary_little Rotl = omega arith
binary_little Rotr = omega arith

compare_little : (op : CompareOp) → compare_most op ≤ 34
compare_little Eq = omega arith
compare_little Ne = omega arith
compare_little LtS = omega arith
compare_little LtU = omega arith
compare_little GtS = omega arith
compare_little GtU = omega arith
compare_little LeS = omega arith
compare_little LeU = omega arith
compare_little GeS = omega arith
compare_little GeU = omega arith

pub operator_little : (q : Operator) → operator_most q ≤ 34
operator_little (Test I32) = omega arith
operator_little (Test I64) = omega arith
operator_little (Unary k op) = omega arith
operator_little (Binary I32 op) = binary_little op
operator_little (Binary I64 op) = omega arith
operator_little (Comparison I32 op) = compare_little op
operator_little (Comparison I64 op) = omega arith
operator_little Wrap = omega arith
operator_little ExtendS = omega arith
operator_little ExtendU = omega arith
