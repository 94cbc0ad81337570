-- The operations of i32 have few ways out, name no score of the scheduler, and are as light as the table of costs says.
use Rattle.std.proofs.Common.{◌≡◌, ℕ, ◌+◌, ◌-◌, ◌≤◌, ◌<◌, List, [], ◌∷◌, ◌++◌, Bool, true, false, refl, ◌∙◌, arith}
use Rattle.std.specs.Prelude.{◌&&◌, not, if◌then◌else◌, nat_lt, nat_eq, codes, pos}
use Rattle.std.specs.List.{list_all}
use Rattle.std.proofs.lemmas.Bool.{lt-ltb}
use Rattle.std.proofs.lemmas.List.Folds.{list_all-append}
use Rattle.mc_nbt.proofs.TestLemmas.{and_both}
use Rattle.mc_nbt.specs.declared.value.Kind.TheVariants.{I32, I64}
use Rattle.mc_cmd.specs.Form.{Text}
use Rattle.mc_cmd.specs.Command.{less, less_equal, equal, greater_equal, greater}
use Rattle.wm_ast.specs.declared.operation.NumOp.{NumOp}
use Rattle.wm_ast.specs.declared.operation.NumOp.TheVariants.{I32Clz, I32Ctz, I32Popcnt, I32Extend8S, I32Extend16S, I32And, I32Or, I32Xor, I32Shl, I32ShrS, I32ShrU, I32Rotl, I32Rotr}
use Rattle.wm_ast.specs.declared.operator.Operator.{Operator}
use Rattle.wm_ast.specs.declared.operator.Operator.TheVariants.{Test, Unary, Binary, Comparison, Wrap, ExtendS, ExtendU}
use Rattle.wm_ast.specs.declared.operator.BinaryOp.{BinaryOp}
use Rattle.wm_ast.specs.declared.operator.BinaryOp.TheVariants.{Add, Sub, Mul, DivS, DivU, RemS, RemU, And, Or, Xor, Shl, ShrS, ShrU, Rotl, Rotr}
use Rattle.wm_ast.specs.declared.operator.CompareOp.{CompareOp}
use Rattle.wm_ast.specs.declared.operator.CompareOp.TheVariants.{Eq, Ne, LtS, LtU, GtS, GtU, LeS, LeU, GeS, GeU}
use Rattle.wm_ast.specs.Operator.{operator_of}
use Rattle.cc_line.specs.Place.{score_places, Spot, scratch, placed}
use Rattle.cc_line.specs.Step.{Step, run_act, copy_place, load_place}
use Rattle.cc_line.specs.Fit.{place_fits}
use Rattle.cc_line.specs.Core.{spot_of, fetch, work_spot, bring, bring_back, on_two, on_one, core_on_one}
use Rattle.cc_line.specs.Item.{Items, steps_items}
use Rattle.cc_sched.specs.Names.{is_sched_score}
use Rattle.cc_sched.specs.Charge.{spot_avoids_sched}
use Rattle.cc_cut.specs.Cost.{operator_cost}
use Rattle.cc_i32.specs.Light.{sum, difference, product, is_zero, compares, differ, compares_unsigned}
use Rattle.cc_i32.specs.Operation.{is_own, operator_items, operator_most, op_items as arithmetic_items, binary_items, compare_items, binary_most, compare_most}
use Rattle.cc_i32.proofs.OperationLemmas.{operator_fits, operator_weighs}
use Rattle.cc_bits.specs.Counting.{extend_steps, clz_steps, ctz_steps}
use Rattle.cc_bits.specs.Operation.{op_items as bit_items, most}
use Rattle.cc_bits.proofs.OperationLemmas.{all_fit, all_most}
use Rattle.cc_pieces.proofs.Weights.{is_meek, ways_out, Meek, steps_meek, Sound, meek_sound, none_meek}
use Rattle.cc_body.specs.Emit.{has_one_operand, num_items, short_below}

-- ---- cores on places

pub both_meek : (xs ys : List Step) → list_all is_meek xs ≡ true → list_all is_meek ys ≡ true → list_all is_meek (xs ++ ys) ≡ true
both_meek xs ys h g = list_all-append is_meek xs ys ∙ and_both _ _ h g

pub spot_avoids : (i : ℕ) (h : Text) → not (is_sched_score h) ≡ true → spot_avoids_sched (spot_of i h) ≡ true
spot_avoids i h e = go (nat_lt i score_places)
  where
    go : (b : Bool) → spot_avoids_sched (if b then placed i else scratch h) ≡ true
    go true = refl
    go false = e

pub tested_avoids : (i : ℕ) → spot_avoids_sched (spot_of i (codes "#a")) ≡ true
tested_avoids i = spot_avoids i (codes "#a") refl

work_avoids : (b r : ℕ) → spot_avoids_sched (work_spot b r) ≡ true
work_avoids b r = go (nat_lt r score_places && not (nat_eq b r))
  where
    go : (c : Bool) → spot_avoids_sched (if c then placed r else scratch (codes "#a")) ≡ true
    go true = refl
    go false = refl

pub fetch_meek : (i : ℕ) (h : Text) → not (is_sched_score h) ≡ true → list_all is_meek (fetch i h) ≡ true
fetch_meek i h e = go (nat_lt i score_places)
  where
    go : (b : Bool) → list_all is_meek (if b then [] else run_act (load_place h i) ∷ []) ≡ true
    go true = refl
    go false = and_both _ _ e refl

pub tested_meek : (i : ℕ) → list_all is_meek (fetch i (codes "#a")) ≡ true
tested_meek i = fetch_meek i (codes "#a") refl

bring_meek : (a : ℕ) (x : Spot) → spot_avoids_sched x ≡ true → list_all is_meek (bring a x) ≡ true
bring_meek a (scratch h) e = and_both _ _ e refl
bring_meek a (placed r) e = go (nat_eq a r)
  where
    go : (b : Bool) → list_all is_meek (if b then [] else run_act (copy_place r a) ∷ []) ≡ true
    go true = refl
    go false = refl

pub back_meek : (r : ℕ) (x : Spot) → spot_avoids_sched x ≡ true → list_all is_meek (bring_back r x) ≡ true
back_meek r (scratch h) e = and_both _ _ e refl
back_meek r (placed i) e = refl

pub two_meek : (core : Spot → Spot → List Step) (a b r : ℕ) → ((x y : Spot) → spot_avoids_sched x ≡ true → spot_avoids_sched y ≡ true → list_all is_meek (core x y) ≡ true)
    → Meek 0 (steps_items (on_two a b r core))
two_meek core a b r h =
    let x : Spot = work_spot b r in
    let y : Spot = spot_of b (codes "#b") in
    let e : spot_avoids_sched x ≡ true = work_avoids b r in
    let d : spot_avoids_sched y ≡ true = spot_avoids b (codes "#b") refl in
    steps_meek (on_two a b r core)
    (both_meek (bring a x) (fetch b (codes "#b") ++ (core x y ++ bring_back r x)) (bring_meek a x e)
    (both_meek (fetch b (codes "#b")) (core x y ++ bring_back r x) (fetch_meek b (codes "#b") refl) (both_meek (core x y) (bring_back r x) (h x y e d) (back_meek r x e))))

pub one_steps : (core : Spot → List Step) (a r : ℕ) → ((x : Spot) → spot_avoids_sched x ≡ true → list_all is_meek (core x) ≡ true) → list_all is_meek (on_one a r core) ≡ true
one_steps core a r h =
    let x : Spot = spot_of r (codes "#a") in
    let e : spot_avoids_sched x ≡ true = tested_avoids r in
    both_meek (bring a x) (core x ++ bring_back r x) (bring_meek a x e) (both_meek (core x) (bring_back r x) (h x e) (back_meek r x e))

pub one_meek : (core : Spot → List Step) (a r : ℕ) → ((x : Spot) → spot_avoids_sched x ≡ true → list_all is_meek (core x) ≡ true) → Meek 0 (steps_items (on_one a r core))
one_meek core a r h = steps_meek (on_one a r core) (one_steps core a r h)

-- ---- arithmetic

up_to_two : (xs : Items) → Meek 0 xs → Meek 2 xs
up_to_two xs m = let l : ways_out xs ≤ 0 = m.few in record { avoids = m.avoids; few = omega arith }

binary_meek : (op : BinaryOp) (a b r : ℕ) → Meek 2 (binary_items op a b r)
binary_meek Add a b r = up_to_two _ (two_meek sum a b r (λ x y e d. rw (e, d) refl))
binary_meek Sub a b r = up_to_two _ (two_meek difference a b r (λ x y e d. rw (e, d) refl))
binary_meek Mul a b r = up_to_two _ (two_meek product a b r (λ x y e d. rw (e, d) refl))
binary_meek DivS a b r = record { avoids = refl; few = omega arith }
binary_meek DivU a b r = record { avoids = refl; few = omega arith }
binary_meek RemS a b r = record { avoids = refl; few = omega arith }
binary_meek RemU a b r = record { avoids = refl; few = omega arith }
binary_meek And a b r = none_meek 2
binary_meek Or a b r = none_meek 2
binary_meek Xor a b r = none_meek 2
binary_meek Shl a b r = none_meek 2
binary_meek ShrS a b r = none_meek 2
binary_meek ShrU a b r = none_meek 2
binary_meek Rotl a b r = none_meek 2
binary_meek Rotr a b r = none_meek 2

compare_meek : (op : CompareOp) (a b r : ℕ) → Meek 2 (compare_items op a b r)
compare_meek Eq a b r = up_to_two _ (two_meek (compares equal) a b r (λ x y e d. rw (e, d) refl))
compare_meek Ne a b r = up_to_two _ (two_meek differ a b r (λ x y e d. rw (e, d) refl))
compare_meek LtS a b r = up_to_two _ (two_meek (compares less) a b r (λ x y e d. rw (e, d) refl))
compare_meek LtU a b r = up_to_two _ (two_meek (compares_unsigned less) a b r (λ x y e d. rw (e, d) refl))
compare_meek GtS a b r = up_to_two _ (two_meek (compares greater) a b r (λ x y e d. rw (e, d) refl))
compare_meek GtU a b r = up_to_two _ (two_meek (compares_unsigned greater) a b r (λ x y e d. rw (e, d) refl))
compare_meek LeS a b r = up_to_two _ (two_meek (compares less_equal) a b r (λ x y e d. rw (e, d) refl))
compare_meek LeU a b r = up_to_two _ (two_meek (compares_unsigned less_equal) a b r (λ x y e d. rw (e, d) refl))
compare_meek GeS a b r = up_to_two _ (two_meek (compares greater_equal) a b r (λ x y e d. rw (e, d) refl))
compare_meek GeU a b r = up_to_two _ (two_meek (compares_unsigned greater_equal) a b r (λ x y e d. rw (e, d) refl))

operator_meek : (q : Operator) (a b r : ℕ) → Meek 2 (operator_items q a b r)
operator_meek (Test I32) a b r = up_to_two _ (one_meek is_zero a r (λ x e. rw e refl))
operator_meek (Test I64) a b r = none_meek 2
operator_meek (Unary k op) a b r = none_meek 2
operator_meek (Binary I32 op) a b r = binary_meek op a b r
operator_meek (Binary I64 op) a b r = none_meek 2
operator_meek (Comparison I32 op) a b r = compare_meek op a b r
operator_meek (Comparison I64 op) a b r = none_meek 2
operator_meek Wrap a b r = none_meek 2
operator_meek ExtendS a b r = none_meek 2
operator_meek ExtendU a b r = none_meek 2

binary_costs : (op : BinaryOp) → binary_most op + 2 ≤ operator_cost (Binary I32 op)
binary_costs Add = omega arith
binary_costs Sub = omega arith
binary_costs Mul = omega arith
binary_costs DivS = omega arith
binary_costs DivU = omega arith
binary_costs RemS = omega arith
binary_costs RemU = omega arith
binary_costs And = omega arith
binary_costs Or = omega arith
binary_costs Xor = omega arith
binary_costs Shl = omega arith
binary_costs ShrS = omega arith
binary_costs ShrU = omega arith
binary_costs Rotl = omega arith
binary_costs Rotr = omega arith

compare_costs : (op : CompareOp) → compare_most op + 2 ≤ 16
compare_costs Eq = omega arith
compare_costs Ne = omega arith
compare_costs LtS = omega arith
compare_costs LtU = omega arith
compare_costs GtS = omega arith
compare_costs GtU = omega arith
compare_costs LeS = omega arith
compare_costs LeU = omega arith
compare_costs GeS = omega arith
compare_costs GeU = omega arith

operator_costs : (q : Operator) → is_own q ≡ true → operator_most q + 2 ≤ operator_cost q
operator_costs (Test I32) e = omega arith
operator_costs (Test I64) e = absurd cc
operator_costs (Unary k op) e = absurd cc
operator_costs (Binary I32 op) e = binary_costs op
operator_costs (Binary I64 op) e = absurd cc
operator_costs (Comparison I32 op) e = compare_costs op
operator_costs (Comparison I64 op) e = absurd cc
operator_costs Wrap e = absurd cc
operator_costs ExtendS e = absurd cc
operator_costs ExtendU e = absurd cc

-- ---- bits

pub bit_meek : (op : NumOp) (a b r : ℕ) → Meek 0 (bit_items op a b r)
bit_meek I32Clz a b r = one_meek (core_on_one clz_steps) a r (λ x e. rw e refl)
bit_meek I32Ctz a b r = one_meek (core_on_one ctz_steps) a r (λ x e. rw e refl)
bit_meek I32Popcnt a b r = record { avoids = refl; few = omega arith }
bit_meek I32Extend8S a b r = one_meek (core_on_one (extend_steps (pos 256) (pos 128))) a r (λ x e. rw e refl)
bit_meek I32Extend16S a b r = one_meek (core_on_one (extend_steps (pos 65536) (pos 32768))) a r (λ x e. rw e refl)
bit_meek I32And a b r = record { avoids = refl; few = omega arith }
bit_meek I32Or a b r = record { avoids = refl; few = omega arith }
bit_meek I32Xor a b r = record { avoids = refl; few = omega arith }
bit_meek I32Shl a b r = record { avoids = refl; few = omega arith }
bit_meek I32ShrS a b r = record { avoids = refl; few = omega arith }
bit_meek I32ShrU a b r = record { avoids = refl; few = omega arith }
bit_meek I32Rotl a b r = record { avoids = refl; few = omega arith }
bit_meek I32Rotr a b r = record { avoids = refl; few = omega arith }
bit_meek op a b r = none_meek 0

bit_costs : (op : NumOp) → most op + 0 ≤ operator_cost (operator_of op)
bit_costs I32Clz = omega arith
bit_costs I32Ctz = omega arith
bit_costs I32Popcnt = omega arith
bit_costs I32Extend8S = omega arith
bit_costs I32Extend16S = omega arith
bit_costs I32And = omega arith
bit_costs I32Or = omega arith
bit_costs I32Xor = omega arith
bit_costs I32Shl = omega arith
bit_costs I32ShrS = omega arith
bit_costs I32ShrU = omega arith
bit_costs I32Rotl = omega arith
bit_costs I32Rotr = omega arith
bit_costs op = omega arith

-- ---- all operations

pub place_is : (i : ℕ) → i < 2147483648 → place_fits i ≡ true
place_is i h = lt-ltb i 2147483648 h

num_sound : (op : NumOp) (a b r : ℕ) → place_fits a ≡ true → place_fits b ≡ true → place_fits r ≡ true → Sound (operator_cost (operator_of op)) (num_items op a b r)
num_sound op a b r fa fb fr = go (is_own (operator_of op)) refl
  where
    go : (c : Bool) → is_own (operator_of op) ≡ c → Sound (operator_cost (operator_of op)) (if c then arithmetic_items op a b r else bit_items op a b r)
    go true e =
        meek_sound 2 (operator_most (operator_of op)) (operator_cost (operator_of op)) (arithmetic_items op a b r) (operator_fits (operator_of op) a b r fa fb fr) (operator_meek (operator_of op) a b r)
        (operator_weighs (operator_of op) a b r) (operator_costs (operator_of op) e)
    go false e = meek_sound 0 (most op) (operator_cost (operator_of op)) (bit_items op a b r) (all_fit op a b r fa fb fr) (bit_meek op a b r) (all_most op a b r) (bit_costs op)

-- on the operands of i32 below a place
pub short_sound : (op : NumOp) (h : ℕ) → h < 2147483648 → Sound (operator_cost (operator_of op)) (short_below op h)
short_sound op h l = go (has_one_operand op)
  where
    go : (c : Bool) → Sound (operator_cost (operator_of op)) (if c then num_items op (h - 1) (h - 1) (h - 1) else num_items op (h - 2) (h - 1) (h - 2))
    go true = num_sound op (h - 1) (h - 1) (h - 1) (place_is (h - 1) (omega arith)) (place_is (h - 1) (omega arith)) (place_is (h - 1) (omega arith))
    go false = num_sound op (h - 2) (h - 1) (h - 2) (place_is (h - 2) (omega arith)) (place_is (h - 1) (omega arith)) (place_is (h - 2) (omega arith))
