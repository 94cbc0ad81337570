-- Cores on places, as items: what they give, that they fit, and what they weigh.
use Rattle.std.proofs.Common.{◌≡◌, ℕ, ◌+◌, ◌<◌, ◌≤◌, List, [], ◌∷◌, ◌++◌, length, Bool, true, false, refl, sym, ap, ◌∙◌, subst, arith}
use Rattle.std.specs.Prelude.{ℤ, if◌then◌else◌, not, ◌&&◌, nat_lt, nat_eq, codes}
use Rattle.mc_nbt.proofs.TestLemmas.{and_first, and_second, and_both}
use Rattle.mc_cmd.specs.Form.{Text}
use Rattle.mc_cmd.specs.Word.{is_holder}
use Rattle.cc_line.specs.Place.{score_places, Spot, scratch, placed}
use Rattle.cc_line.specs.State.{State, place_at}
use Rattle.cc_line.specs.Step.{copy_place, load_place, keep_place, Step, run_act, step_weight, steps_weight}
use Rattle.cc_line.specs.Fit.{place_fits, scratch_fits, spot_fits, step_fits, steps_fit}
use Rattle.cc_line.specs.Core.{Straight, Replaced, Makes, MakesOne, spot_of, fetch, work_spot, bring, bring_back, on_two, on_one}
use Rattle.cc_line.specs.Item.{steps_items, items_most, items_fit}
use Rattle.cc_line.specs.Routine.{Gives}
use Rattle.cc_line.proofs.CoreLemmas.{two_do, one_does, steps_weight-append}
use Rattle.cc_line.proofs.RunLemmas.{steps_run, steps_ready, steps_most, steps_all_fit}
use Rattle.cc_line.proofs.WeightLemmas.{load_weighs, keep_weighs, copy_weighs}

-- straight steps that replace numbers give them
pub straight_gives : (xs : List Step) (s t : State) (r : ℕ) (zs : List ℤ) → Straight xs s t → Replaced s t r zs → Gives (steps_items xs) s r zs
straight_gives xs s t r zs f d = record { ready = steps_ready xs s f.ready; state = t; used = steps_weight xs; ends = steps_run xs s ∙ f.ends; replaced = d }

pub two_give : (core : Spot → Spot → List Step) (x y z : ℤ) (a b r : ℕ) (s : State) → Makes core x y z → a < length s.places → b < length s.places → r < length s.places → place_at s a ≡ x → place_at s b ≡ y
    → Gives (steps_items (on_two a b r core)) s r (z ∷ [])
two_give core x y z a b r s m la lb lr ex ey = let n = two_do core x y z a b r s m la lb lr ex ey in straight_gives (on_two a b r core) s n.0 r (z ∷ []) n.1 n.2

pub one_gives : (core : Spot → List Step) (x z : ℤ) (a r : ℕ) (s : State) → MakesOne core x z → a < length s.places → r < length s.places → place_at s a ≡ x
    → Gives (steps_items (on_one a r core)) s r (z ∷ [])
one_gives core x z a r s m la lr ex = let n = one_does core x z a r s m la lr ex in straight_gives (on_one a r core) s n.0 r (z ∷ []) n.1 n.2

-- ---- they fit

pub fit_append : (xs ys : List Step) → steps_fit xs ≡ true → steps_fit ys ≡ true → steps_fit (xs ++ ys) ≡ true
fit_append [] ys f g = g
fit_append (x ∷ xs) ys f g = and_both _ _ (and_first _ _ f) (fit_append xs ys (and_second (step_fits x) _ f) g)

pub a_fits : scratch_fits (codes "#a") ≡ true
unfolding is_holder
a_fits = refl

pub b_fits : scratch_fits (codes "#b") ≡ true
unfolding is_holder
b_fits = refl

pub spot_of_fits : (i : ℕ) (h : Text) → scratch_fits h ≡ true → spot_fits (spot_of i h) ≡ true
spot_of_fits i h f = go (nat_lt i score_places) refl
  where
    go : (b : Bool) → nat_lt i score_places ≡ b → spot_fits (if b then placed i else scratch h) ≡ true
    go true e = e
    go false e = f

work_spot_fits : (b r : ℕ) → spot_fits (work_spot b r) ≡ true
work_spot_fits b r = go (nat_lt r score_places) refl (nat_eq b r)
  where
    go : (p : Bool) → nat_lt r score_places ≡ p → (q : Bool) → spot_fits (if p && not q then placed r else scratch (codes "#a")) ≡ true
    go false e q = a_fits
    go true e true = a_fits
    go true e false = e

pub fetch_fits : (i : ℕ) (h : Text) → scratch_fits h ≡ true → place_fits i ≡ true → steps_fit (fetch i h) ≡ true
fetch_fits i h f g = go (nat_lt i score_places)
  where
    go : (b : Bool) → steps_fit (if b then [] else run_act (load_place h i) ∷ []) ≡ true
    go true = refl
    go false = and_both _ _ (and_both _ _ f g) refl

-- between a place that fits and a spot that does
bring_fits : (a : ℕ) (w : Spot) → place_fits a ≡ true → spot_fits w ≡ true → ((r : ℕ) → w ≡ placed r → place_fits r ≡ true) → steps_fit (bring a w) ≡ true
bring_fits a (scratch h) f g k = and_both _ _ (and_both _ _ g f) refl
bring_fits a (placed r) f g k = go (nat_eq a r)
  where
    go : (b : Bool) → steps_fit (if b then [] else run_act (copy_place r a) ∷ []) ≡ true
    go true = refl
    go false = and_both _ _ (and_both _ _ (k r refl) f) refl

pub back_fits : (r : ℕ) (w : Spot) → place_fits r ≡ true → spot_fits w ≡ true → steps_fit (bring_back r w) ≡ true
back_fits r (placed i) f g = refl
back_fits r (scratch h) f g = and_both _ _ (and_both _ _ f g) refl

score_place_fits : (w : Spot) → spot_fits w ≡ true → (r : ℕ) → w ≡ placed r → place_fits r ≡ true
score_place_fits w g r e = let h : nat_lt r score_places ≡ true = ap spot_fits (sym e) ∙ g in small r h
  where
    small : (r : ℕ) → nat_lt r 128 ≡ true → nat_lt r 2147483648 ≡ true
    small r h = grind arith

pub two_fit : (core : Spot → Spot → List Step) (a b r : ℕ) → ((x y : Spot) → spot_fits x ≡ true → spot_fits y ≡ true → steps_fit (core x y) ≡ true) → place_fits a ≡ true → place_fits b ≡ true → place_fits r ≡ true
    → items_fit (steps_items (on_two a b r core)) ≡ true
two_fit core a b r m fa fb fr =
    let w : Spot = work_spot b r in
    let fw : spot_fits w ≡ true = work_spot_fits b r in
    steps_all_fit (on_two a b r core)
    (fit_append (bring a w) _ (bring_fits a w fa fw (score_place_fits w fw))
    (fit_append (fetch b (codes "#b")) _ (fetch_fits b (codes "#b") b_fits fb)
    (fit_append (core w (spot_of b (codes "#b"))) _ (m w (spot_of b (codes "#b")) fw (spot_of_fits b (codes "#b") b_fits)) (back_fits r w fr fw))))

pub one_fits : (core : Spot → List Step) (a r : ℕ) → ((x : Spot) → spot_fits x ≡ true → steps_fit (core x) ≡ true) → place_fits a ≡ true → place_fits r ≡ true → items_fit (steps_items (on_one a r core)) ≡ true
one_fits core a r m fa fr =
    let w : Spot = spot_of r (codes "#a") in
    let fw : spot_fits w ≡ true = spot_of_fits r (codes "#a") a_fits in
    steps_all_fit (on_one a r core) (fit_append (bring a w) _ (bring_fits a w fa fw (score_place_fits w fw)) (fit_append (core w) _ (m w fw) (back_fits r w fr fw)))

-- ---- what they weigh

two_at_most : (b : Bool) → (if b then 1 else 2) ≤ 2
two_at_most true = omega arith
two_at_most false = omega arith

turned_at_most : (b : Bool) → (if b then 2 else 1) ≤ 2
turned_at_most true = omega arith
turned_at_most false = omega arith

pub load_most : (h : Text) (i : ℕ) → step_weight (run_act (load_place h i)) ≤ 2
load_most h i = let e = load_weighs h i in let l = two_at_most (nat_lt i score_places) in omega arith

pub keep_most : (i : ℕ) (h : Text) → step_weight (run_act (keep_place i h)) ≤ 2
keep_most i h = subst (λ n. n ≤ 2) (sym (keep_weighs i h)) (go (nat_lt i score_places))
  where
    go : (b : Bool) → (if b then (if true then 1 else 2) else (if true then 2 else 1)) ≤ 2
    go true = omega arith
    go false = omega arith

copy_most : (i j : ℕ) → step_weight (run_act (copy_place i j)) ≤ 2
copy_most i j = subst (λ n. n ≤ 2) (sym (copy_weighs i j)) (go (nat_lt i score_places) (nat_lt j score_places))
  where
    go : (p q : Bool) → (if p then (if q then 1 else 2) else (if q then 2 else 1)) ≤ 2
    go true q = two_at_most q
    go false q = turned_at_most q

bring_most : (a : ℕ) (w : Spot) → steps_weight (bring a w) ≤ 2
bring_most a (scratch h) = let l = load_most h a in omega arith
bring_most a (placed r) = go (nat_eq a r)
  where
    go : (b : Bool) → steps_weight (if b then [] else run_act (copy_place r a) ∷ []) ≤ 2
    go true = omega arith
    go false = let l = copy_most r a in omega arith

pub fetch_most : (i : ℕ) (h : Text) → steps_weight (fetch i h) ≤ 2
fetch_most i h = go (nat_lt i score_places)
  where
    go : (b : Bool) → steps_weight (if b then [] else run_act (load_place h i) ∷ []) ≤ 2
    go true = omega arith
    go false = let l = load_most h i in omega arith

pub back_most : (r : ℕ) (w : Spot) → steps_weight (bring_back r w) ≤ 2
back_most r (placed i) = omega arith
back_most r (scratch h) = let l = keep_most r h in omega arith

pub two_most : (core : Spot → Spot → List Step) (a b r n : ℕ) → ((x y : Spot) → steps_weight (core x y) ≡ n) → items_most (steps_items (on_two a b r core)) ≤ n + 6
two_most core a b r n m =
    let w : Spot = work_spot b r in
    let y : Spot = spot_of b (codes "#b") in
    let p = steps_weight-append (bring a w) (fetch b (codes "#b") ++ (core w y ++ bring_back r w)) in
    let q = steps_weight-append (fetch b (codes "#b")) (core w y ++ bring_back r w) in
    let o = steps_weight-append (core w y) (bring_back r w) in
    let l = bring_most a w in
    let f = fetch_most b (codes "#b") in
    let k = back_most r w in
    let e = m w y in
    subst (λ i. i ≤ n + 6) (sym (steps_most (on_two a b r core))) (omega arith)

pub one_most : (core : Spot → List Step) (a r n : ℕ) → ((x : Spot) → steps_weight (core x) ≡ n) → items_most (steps_items (on_one a r core)) ≤ n + 4
one_most core a r n m =
    let w : Spot = spot_of r (codes "#a") in
    let p = steps_weight-append (bring a w) (core w ++ bring_back r w) in
    let o = steps_weight-append (core w) (bring_back r w) in
    let l = bring_most a w in
    let k = back_most r w in
    let e = m w in
    subst (λ i. i ≤ n + 4) (sym (steps_most (on_one a r core))) (omega arith)
