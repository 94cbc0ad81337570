-- What steps on scratch scores leave, by computation: where the scores that a step reads are set, it writes one score,
-- and writes it whether its conditions hold or not.
use Rattle.std.proofs.Common.{◌≡◌, List, [], ◌∷◌, Option, Some, None, Bool, true, false, refl, sym, ap, ◌∙◌, subst, zero-le}
use Rattle.std.specs.Prelude.{ℤ, pos, ◌+ℤ◌, ◌-ℤ◌, ◌&&◌, if◌then◌else◌, is_some, unwrap_or, codes}
use Rattle.std.specs.Str.{bytes_eq}
use Rattle.std.proofs.lemmas.Slice.Eq.{bytes_eq-Decides}
use Rattle.mc_nbt.proofs.TestLemmas.{and_first, and_second}
use Rattle.mc_cmd.specs.Form.{Text}
use Rattle.mc_cmd.specs.Command.{Op, assign, add, subtract, multiply, divide, remainder, lower, raise, swap}
use Rattle.mc_cmd.specs.World.{wrapped, or_zero, operate}
use Rattle.cc_line.specs.Place.{is_scratch, scratch}
use Rattle.cc_line.specs.Key.{is_work}
use Rattle.cc_line.specs.State.{State, with_score}
use Rattle.cc_line.specs.Step.{Act, set_spot, increase, decrease, combine, Cond, Step, run_act, when, stop_when, flow, more, step_weight, steps_weight, with_some_spot, combined, after_act, cond_holds, conds_hold, after_step, stops, run_steps}
use Rattle.cc_line.specs.Fit.{steps_fit}
use Rattle.cc_line.specs.Core.{Straight, all_on_scratch, CoreMakes, CoreMakesOne}
use Rattle.cc_line.specs.Within.{steps_within}
use Rattle.cc_line.proofs.CoreLemmas.{work_apart}
use Rattle.cc_line.proofs.WithinLemmas.{steps_found}

-- ---- what is left

-- the score that an act writes, and what it gets
abbrev pub target : Act → Text
target (set_spot (scratch h) z) = h
target (increase (scratch h) n) = h
target (decrease (scratch h) n) = h
target (combine (scratch h) op y) = h
target _ = []

abbrev pub number_after : Act → State → ℤ
number_after (set_spot x z) s = z
number_after (increase (scratch h) n) s = wrapped (or_zero (s.scores h) +ℤ pos n)
number_after (decrease (scratch h) n) s = wrapped (or_zero (s.scores h) -ℤ pos n)
number_after (combine (scratch h) op (scratch g)) s = unwrap_or (operate op (or_zero (s.scores h)) (or_zero (s.scores g))) (or_zero (s.scores h))
number_after _ s = pos 0

abbrev pub all_hold : List Cond → State → Bool
all_hold [] s = true
all_hold (c ∷ []) s = cond_holds c s
all_hold (c ∷ (d ∷ cs)) s = cond_holds c s && all_hold (d ∷ cs) s

abbrev pub settled_step : Step → State → State
settled_step (run_act a) s = with_score s (target a) (number_after a s)
settled_step (when cs a) s = with_score s (target a) (if all_hold cs s then number_after a s else or_zero (s.scores (target a)))
settled_step (stop_when cs) s = s

abbrev pub settled : List Step → State → State
settled [] s = s
settled (x ∷ xs) s = settled xs (settled_step x s)

-- ---- where that is so

-- the operations that may fail
abbrev may_fail : Op → Bool
may_fail divide = true
may_fail remainder = true
may_fail op = false

abbrev either : Bool → Bool → Bool
either p q = if p then q else true

abbrev act_pinned : Act → State → Bool
act_pinned (set_spot (scratch h) z) s = true
act_pinned (increase (scratch h) n) s = true
act_pinned (decrease (scratch h) n) s = true
act_pinned (combine (scratch h) op (scratch g)) s = is_some (s.scores g) && either (may_fail op) (is_some (s.scores h))
act_pinned _ s = false

abbrev step_pinned : Step → State → Bool
step_pinned (run_act a) s = act_pinned a s
step_pinned (when cs a) s = is_some (s.scores (target a)) && act_pinned a s
step_pinned (stop_when cs) s = false

-- each score that is read is set
abbrev pub pinned : List Step → State → Bool
pinned [] s = true
pinned (x ∷ xs) s = step_pinned x s && pinned xs (settled_step x s)

abbrev act_works : Act → Bool
act_works (set_spot (scratch h) z) = is_work h
act_works (increase (scratch h) n) = is_work h
act_works (decrease (scratch h) n) = is_work h
act_works (combine (scratch h) op (scratch g)) = is_work h
act_works _ = false

abbrev step_works : Step → Bool
step_works (run_act a) = act_works a
step_works (when cs a) = act_works a
step_works (stop_when cs) = false

-- the steps write scratch scores of routines alone
abbrev pub works : List Step → Bool
works [] = true
works (x ∷ xs) = step_works x && works xs

-- ---- it is

some_zero : (o : Option ℤ) → is_some o ≡ true → o ≡ Some (or_zero o)
some_zero None e = absurd cc
some_zero (Some z) e = refl

-- a score that is set again to what it is
pub score_kept : (s : State) (h : Text) (z : ℤ) → s.scores h ≡ Some z → with_score s h z ≡ s
score_kept s h z e = λ i. record s { scores = λ j. by j (bytes_eq h j) refl i }
  where
    by : (j : Text) (b : Bool) → bytes_eq h j ≡ b → (if bytes_eq h j then Some z else s.scores j) ≡ s.scores j
    by j true p = ap (λ b. if b then Some z else s.scores j) p ∙ sym e ∙ ap s.scores ((bytes_eq-Decides h j).0 p)
    by j false p = ap (λ b. if b then Some z else s.scores j) p

-- an operation's number
operated : (s : State) (h : Text) (op : Op) (b : ℤ) → either (may_fail op) (is_some (s.scores h)) ≡ true
    → with_some_spot s (scratch h) (operate op (or_zero (s.scores h)) b) ≡ with_score s h (unwrap_or (operate op (or_zero (s.scores h)) b) (or_zero (s.scores h)))
operated s h assign b k = refl
operated s h add b k = refl
operated s h subtract b k = refl
operated s h multiply b k = refl
operated s h divide b k = go (operate divide (or_zero (s.scores h)) b)
  where
    go : (o : Option ℤ) → with_some_spot s (scratch h) o ≡ with_score s h (unwrap_or o (or_zero (s.scores h)))
    go None = sym (score_kept s h (or_zero (s.scores h)) (some_zero (s.scores h) k))
    go (Some z) = refl
operated s h remainder b k = go (operate remainder (or_zero (s.scores h)) b)
  where
    go : (o : Option ℤ) → with_some_spot s (scratch h) o ≡ with_score s h (unwrap_or o (or_zero (s.scores h)))
    go None = sym (score_kept s h (or_zero (s.scores h)) (some_zero (s.scores h) k))
    go (Some z) = refl
operated s h lower b k = refl
operated s h raise b k = refl
operated s h swap b k = refl

act_settles : (a : Act) (s : State) → act_pinned a s ≡ true → after_act a s ≡ with_score s (target a) (number_after a s)
act_settles (set_spot (scratch h) z) s k = refl
act_settles (increase (scratch h) n) s k = refl
act_settles (decrease (scratch h) n) s k = refl
act_settles (combine (scratch h) op (scratch g)) s k =
    ap (combined s (scratch h) op) (some_zero (s.scores g) (and_first _ _ k)) ∙ operated s h op (or_zero (s.scores g)) (and_second (is_some (s.scores g)) _ k)
act_settles _ s k = absurd cc

pub all_hold_is : (cs : List Cond) (s : State) → conds_hold cs s ≡ all_hold cs s
all_hold_is [] s = refl
all_hold_is (c ∷ []) s = go (cond_holds c s)
  where
    go : (b : Bool) → b && true ≡ b
    go true = refl
    go false = refl
all_hold_is (c ∷ (d ∷ cs)) s = ap (λ b. cond_holds c s && b) (all_hold_is (d ∷ cs) s)

step_settles : (x : Step) (s : State) → step_pinned x s ≡ true → (after_step x s ≡ settled_step x s) × (stops x s ≡ false)
step_settles (run_act a) s k = (act_settles a s k, refl)
step_settles (when cs a) s k = (ap (λ b. if b then after_act a s else s) (all_hold_is cs s) ∙ go (all_hold cs s), refl)
  where
    go : (b : Bool) → (if b then after_act a s else s) ≡ with_score s (target a) (if b then number_after a s else or_zero (s.scores (target a)))
    go true = act_settles a s (and_second (is_some (s.scores (target a))) _ k)
    go false = sym (score_kept s (target a) (or_zero (s.scores (target a))) (some_zero (s.scores (target a)) (and_first _ _ k)))
step_settles (stop_when cs) s k = absurd cc

pub settles : (xs : List Step) (s : State) → pinned xs s ≡ true → run_steps xs s ≡ flow false (settled xs s) (steps_weight xs)
settles [] s k = refl
settles (x ∷ xs) s k =
    let e = step_settles x s (and_first _ _ k) in
    ap (λ b. if b then flow true s (step_weight x) else more (step_weight x) (run_steps xs (after_step x s))) e.1
    ∙ ap (λ t. more (step_weight x) (run_steps xs t)) e.0
    ∙ ap (more (step_weight x)) (settles xs (settled_step x s) (and_second (step_pinned x s) _ k))

-- ---- and nothing else differs

target_works : (a : Act) → act_works a ≡ true → is_work (target a) ≡ true
target_works (set_spot (scratch h) z) k = k
target_works (increase (scratch h) n) k = k
target_works (decrease (scratch h) n) k = k
target_works (combine (scratch h) op (scratch g)) k = k
target_works _ k = absurd cc

pub score_beside : (s : State) (h g : Text) (z : ℤ) → is_work h ≡ true → is_work g ≡ false → (with_score s h z).scores g ≡ s.scores g
score_beside s h g z k w = ap (λ b. if b then Some z else s.scores g) (work_apart h g k w)

pub settled_beside : (xs : List Step) (s : State) (g : Text) → works xs ≡ true → is_work g ≡ false → (settled xs s).scores g ≡ s.scores g
settled_beside [] s g k w = refl
settled_beside (run_act a ∷ xs) s g k w = settled_beside xs (settled_step (run_act a) s) g (and_second (act_works a) _ k) w ∙ score_beside s (target a) g _ (target_works a (and_first _ _ k)) w
settled_beside (when cs a ∷ xs) s g k w = settled_beside xs (settled_step (when cs a) s) g (and_second (act_works a) _ k) w ∙ score_beside s (target a) g _ (target_works a (and_first _ _ k)) w
settled_beside (stop_when cs ∷ xs) s g k w = absurd cc

pub settled_places : (xs : List Step) (s : State) → (settled xs s).places ≡ s.places
settled_places [] s = refl
settled_places (run_act a ∷ xs) s = settled_places xs (settled_step (run_act a) s)
settled_places (when cs a ∷ xs) s = settled_places xs (settled_step (when cs a) s)
settled_places (stop_when cs ∷ xs) s = settled_places xs s

pub settled_keys : (xs : List Step) (s : State) → (settled xs s).keys ≡ s.keys
settled_keys [] s = refl
settled_keys (run_act a ∷ xs) s = settled_keys xs (settled_step (run_act a) s)
settled_keys (when cs a ∷ xs) s = settled_keys xs (settled_step (when cs a) s)
settled_keys (stop_when cs ∷ xs) s = settled_keys xs s

-- steps that name no place lead there
pub settled_straight : (xs : List Step) (s : State) → steps_within 0 xs ≡ true → pinned xs s ≡ true → Straight xs s (settled xs s)
settled_straight xs s w k = record { ready = steps_found 0 xs s zero-le w; ends = settles xs s k }

-- ---- CORES BY COMPUTATION: what they leave of `#a` and `#b`, whatever else stands

-- a state in which both are these, and one in which `#a` is
abbrev pub with_two : State → ℤ → ℤ → State
with_two s a b = with_score (with_score s (codes "#a") a) (codes "#b") b

abbrev pub with_one : State → ℤ → State
with_one s a = with_score s (codes "#a") a

pub core_by : (xs : List Step) (a b z : ℤ) → all_on_scratch xs ≡ true → steps_fit xs ≡ true → works xs ≡ true → steps_within 0 xs ≡ true
    → ((s : State) → pinned xs (with_two s a b) ≡ true) → ((s : State) → (settled xs (with_two s a b)).scores (codes "#a") ≡ Some z) → ((s : State) → (settled xs (with_two s a b)).scores (codes "#b") ≡ Some b)
    → CoreMakes xs a b z
core_by xs a b z plain fits work within pin left kept = record {
  plain = plain;
  fits = fits;
  on = λ s ea eb.
      let e : with_two s a b ≡ s = score_kept (with_score s (codes "#a") a) (codes "#b") b eb ∙ score_kept s (codes "#a") a ea in
      subst (λ u. (t : State) × Straight xs u t × (t.scores (codes "#a") ≡ Some z) × (t.scores (codes "#b") ≡ Some b) × ((h : Text) → is_scratch h ≡ true → is_work h ≡ false → t.scores h ≡ u.scores h)) e
      (settled xs (with_two s a b), settled_straight xs (with_two s a b) within (pin s), left s, kept s, λ h l w. settled_beside xs (with_two s a b) h work w);
}

pub core_by_one : (xs : List Step) (a z : ℤ) → all_on_scratch xs ≡ true → steps_fit xs ≡ true → works xs ≡ true → steps_within 0 xs ≡ true
    → ((s : State) → pinned xs (with_one s a) ≡ true) → ((s : State) → (settled xs (with_one s a)).scores (codes "#a") ≡ Some z)
    → CoreMakesOne xs a z
core_by_one xs a z plain fits work within pin left = record {
  plain = plain;
  fits = fits;
  on = λ s ea.
      subst (λ u. (t : State) × Straight xs u t × (t.scores (codes "#a") ≡ Some z) × ((h : Text) → is_scratch h ≡ true → is_work h ≡ false → t.scores h ≡ u.scores h)) (score_kept s (codes "#a") a ea)
      (settled xs (with_one s a), settled_straight xs (with_one s a) within (pin s), left s, λ h l w. settled_beside xs (with_one s a) h work w);
}
