-- The charge changes nothing but the budget, and what it takes from it covers what was run.
use Rattle.std.proofs.lemmas.Int.{ints, int_wrap-add_left}
use Rattle.std.specs.Int.{w32}
use Rattle.std.proofs.Common.{◌≡◌, ℕ, suc, ◌+◌, ◌*◌, ◌<◌, ◌≤◌, List, [], ◌∷◌, ◌++◌, Option, Some, None, Bool, true, false, refl, sym, ap, ◌∙◌, subst, arith}
use Rattle.std.specs.Prelude.{ℤ, pos, ◌+ℤ◌, ◌-ℤ◌, not, ◌&&◌, ◌||◌, if◌then◌else◌, nat_lt, nat_eq, take}
use Rattle.std.specs.Fmt.{signed_decimal}
use Rattle.std.specs.List.{list_all}
use Rattle.std.specs.Str.{bytes_eq}
use Rattle.std.proofs.lemmas.Slice.Eq.{bytes_eq-Decides}
use Rattle.std.proofs.lemmas.Bool.{lt-ltb}
use Rattle.mc_nbt.specs.Tree.{Tree, int, string, list, compound}
use Rattle.mc_cmd.specs.Form.{Text}
use Rattle.mc_cmd.specs.Word.{is_holder}
use Rattle.mc_cmd.specs.World.{both_compare, operate, or_zero, wrapped, some_is_in}
use Rattle.mc_cmd.specs.steps.OpenText.{Ints}
use Rattle.mc_cmd.proofs.FormLemmas.{and_first, and_second, and_both}
use Rattle.cc_line.specs.Sight.{with_holder}
use Rattle.cc_line.specs.Place.{score_places, Spot, scratch, placed}
use Rattle.cc_line.specs.State.{State, Site, read, with_spot, with_place, with_score, place_at, number_at, selected, with_tree, with_set, with_copy, with_append_copy, with_some_list}
use Rattle.cc_line.specs.Step.{Act, set_spot, increase, decrease, combine, set_place, copy_place, load_place, keep_place, load_site, keep_site, place_to_site, site_to_place, set_site, copy_site, append_value_to, append_site, erase_site, open_place, make_list, save_list, restore_list, Check, in_range, compare, stands, Cond, holds, fails, Step, run_act, when, stop_when, step_weight, steps_weight, with_some_spot, combined, with_kept, with_taken, some_ints, after_act, check_holds, cond_holds, conds_hold, after_step, stops, Flow, flow, more, run_steps, SpotReady, ActReady, CheckReady, CondsReady, StepReady, Ready}
use Rattle.cc_line.proofs.ItemLemmas.{items_within, open_weights}
use Rattle.cc_sched.specs.Names.{is_sched_score, score_budget}
use Rattle.cc_line.specs.OpenStep.{OpenAct, open_set_spot, open_combine, open_load_site, open_keep_site, open_place_to_site, open_site_to_place, open_set_site, open_copy_site, OpenStep, closed_step, open_act, open_when, act_with, step_with, steps_with}
use Rattle.cc_line.specs.Fit.{spot_fits, step_fits}
use Rattle.cc_line.specs.Item.{Item, step_item, call_item, call_when, fill_item, fill_when, Items, no_more, first, called, filled_steps, run_item, run_items, item_most, items_most, ItemReady, ItemsReady, item_fits, items_fit, item_helpers, items_helpers}
use Rattle.cc_sched.specs.Charge.{Paid, lowered, charge, take_charge, exits, round_weight, step_leads_on, open_leads_on, item_is_level, items_are_level, item_is_even, items_are_even, open_act_avoids_sched, open_avoids_sched, item_avoids_sched, items_avoid_sched, spot_avoids_sched, stem_avoids_sched, act_avoids_sched, check_avoids_sched, cond_avoids_sched, step_avoids_sched, IsLike, IsKept, with_scores}

not_true : (b : Bool) → not b ≡ true → b ≡ false
not_true false e = refl
not_true true e = absurd cc

-- such a holder is none of the scheduler's
apart : (h j : Text) → not (is_sched_score h) ≡ true → is_sched_score j ≡ true → bytes_eq h j ≡ false
apart h j t e = go (bytes_eq h j) refl
  where
    go : (b : Bool) → bytes_eq h j ≡ b → b ≡ false
    go false f = refl
    go true f =
        let same : h ≡ j = (bytes_eq-Decides h j).0 f in
        absurd (let g : true ≡ false = sym (ap is_sched_score same ∙ e) ∙ not_true (is_sched_score h) t in cc)

-- a state is the other one with these scores, which are like its own; those of the scheduler are as they were
pub record Alike (x : State) (y : State) (f : Text → Option ℤ) : Type 0 where
  pub scores : Text → Option ℤ
  pub is : y ≡ with_scores x scores
  pub like : IsLike scores x.scores
  pub kept : IsKept scores f

as_was : (s : State) (f : Text → Option ℤ) → IsLike f s.scores → Alike s (with_scores s f) f
as_was s f l = record { scores = f; is = refl; like = l; kept = λ j e. refl }

score_alike : (h : Text) (z : ℤ) (s : State) (f : Text → Option ℤ) → not (is_sched_score h) ≡ true → IsLike f s.scores → Alike (with_score s h z) (with_score (with_scores s f) h z) f
score_alike h z s f t l = record {
  scores = with_holder f h z;
  is = refl;
  like = λ j e. ap (λ o. if bytes_eq h j then Some z else o) (l j e);
  kept = λ j e. ap (λ b. if b then Some z else f j) (apart h j t e);
}

spot_alike : (x : Spot) (z : ℤ) (s : State) (f : Text → Option ℤ) → spot_avoids_sched x ≡ true → IsLike f s.scores → Alike (with_spot s x z) (with_spot (with_scores s f) x z) f
spot_alike (scratch h) z s f t l = score_alike h z s f t l
spot_alike (placed i) z s f t l = as_was (with_place s i z) f l

read_alike : (x : Spot) (s : State) (f : Text → Option ℤ) → spot_avoids_sched x ≡ true → IsLike f s.scores → read (with_scores s f) x ≡ read s x
read_alike (scratch h) s f t l = l h (not_true _ t)
read_alike (placed i) s f t l = refl

tree_alike : (p : Site) (o : Option Tree) (s : State) (f : Text → Option ℤ) → IsLike f s.scores → Alike (with_tree s p o) (with_tree (with_scores s f) p o) f
tree_alike p None s f l = as_was s f l
tree_alike p (Some t) s f l = as_was (with_tree s p (Some t)) f l

copy_alike : (p : Site) (o : Option Tree) (s : State) (f : Text → Option ℤ) → IsLike f s.scores → Alike (with_copy s p o) (with_copy (with_scores s f) p o) f
copy_alike p None s f l = as_was s f l
copy_alike p (Some t) s f l = tree_alike p _ s f l

append_alike : (p : Site) (o : Option Tree) (s : State) (f : Text → Option ℤ) → IsLike f s.scores → Alike (with_append_copy s p o) (with_append_copy (with_scores s f) p o) f
append_alike p None s f l = as_was s f l
append_alike p (Some t) s f l = tree_alike p _ s f l

-- a place that is written or not
maybe_alike : (b : Bool) (i : ℕ) (z : ℤ) (s : State) (f : Text → Option ℤ) → IsLike f s.scores → Alike (if b then with_place s i z else s) (if b then with_place (with_scores s f) i z else with_scores s f) f
maybe_alike true i z s f l = as_was (with_place s i z) f l
maybe_alike false i z s f l = as_was s f l

kept_alike : (i : ℕ) (o : Option ℤ) (s : State) (f : Text → Option ℤ) → IsLike f s.scores → Alike (with_kept s i o) (with_kept (with_scores s f) i o) f
kept_alike i (Some z) s f l = as_was (with_place s i z) f l
kept_alike i None s f l = go (nat_lt i score_places)
  where
    go : (b : Bool) → Alike (if b then s else with_place s i (pos 0)) (if b then with_scores s f else with_place (with_scores s f) i (pos 0)) f
    go true = as_was s f l
    go false = as_was (with_place s i (pos 0)) f l

taken_alike : (i : ℕ) (o : Option Tree) (s : State) (f : Text → Option ℤ) → IsLike f s.scores → Alike (with_taken s i o) (with_taken (with_scores s f) i o) f
taken_alike i None s f l = maybe_alike (nat_lt i score_places) i (pos 0) s f l
taken_alike i (Some (int z)) s f l = as_was (with_place s i z) f l
taken_alike i (Some (string b)) s f l = maybe_alike (nat_lt i score_places) i (number_at (Some (string b))) s f l
taken_alike i (Some (list ts)) s f l = maybe_alike (nat_lt i score_places) i (number_at (Some (list ts))) s f l
taken_alike i (Some (compound fs)) s f l = maybe_alike (nat_lt i score_places) i (number_at (Some (compound fs))) s f l

list_alike : (o : Option (List ℤ)) (s : State) (f : Text → Option ℤ) → IsLike f s.scores → Alike (with_some_list s o) (with_some_list (with_scores s f) o) f
list_alike None s f l = as_was s f l
list_alike (Some zs) s f l = as_was (with_some_list s (Some zs)) f l

-- an act
act_alike : (a : Act) (s : State) (f : Text → Option ℤ) → act_avoids_sched a ≡ true → IsLike f s.scores → Alike (after_act a s) (after_act a (with_scores s f)) f
act_alike (set_spot x z) s f t l = spot_alike x z s f t l
act_alike (increase x n) s f t l = subst (λ o. Alike (with_spot s x (wrapped (or_zero (read s x) +ℤ pos n))) (with_spot (with_scores s f) x (wrapped (or_zero o +ℤ pos n))) f) (sym (read_alike x s f t l)) (spot_alike x (wrapped (or_zero (read s x) +ℤ pos n)) s f t l)
act_alike (decrease x n) s f t l = subst (λ o. Alike (with_spot s x (wrapped (or_zero (read s x) -ℤ pos n))) (with_spot (with_scores s f) x (wrapped (or_zero o -ℤ pos n))) f) (sym (read_alike x s f t l)) (spot_alike x (wrapped (or_zero (read s x) -ℤ pos n)) s f t l)
act_alike (combine x op y) s f t l = subst (λ o. Alike (combined s x op (read s y)) (combined (with_scores s f) x op o) f) (sym (read_alike y s f (and_second (spot_avoids_sched x) _ t) l)) (of_source (read s y))
  where
    inner : (o : Option ℤ) → Alike (with_some_spot s x o) (with_some_spot (with_scores s f) x o) f
    inner None = as_was s f l
    inner (Some z) = spot_alike x z s f (and_first _ _ t) l

    of_source : (o : Option ℤ) → Alike (combined s x op o) (combined (with_scores s f) x op o) f
    of_source None = as_was s f l
    of_source (Some b) = subst (λ q. Alike (with_some_spot s x (operate op (or_zero (read s x)) b)) (with_some_spot (with_scores s f) x (operate op (or_zero q) b)) f) (sym (read_alike x s f (and_first _ _ t) l)) (inner (operate op (or_zero (read s x)) b))
act_alike (set_place i z) s f t l = as_was (with_place s i z) f l
act_alike (copy_place i j) s f t l = as_was (after_act (copy_place i j) s) f l
act_alike (load_place h i) s f t l = score_alike h (place_at s i) s f t l
act_alike (keep_place i h) s f t l = subst (λ o. Alike (with_kept s i (s.scores h)) (with_kept (with_scores s f) i o) f) (sym (l h (not_true _ t))) (kept_alike i (s.scores h) s f l)
act_alike (load_site h p) s f t l = score_alike h (number_at (selected s p)) s f t l
act_alike (keep_site p h) s f t l = subst (λ o. Alike (with_set s p (int (or_zero (s.scores h)))) (with_set (with_scores s f) p (int (or_zero o))) f) (sym (l h (not_true _ t))) (tree_alike p _ s f l)
act_alike (place_to_site p i) s f t l = tree_alike p _ s f l
act_alike (site_to_place i p) s f t l = taken_alike i (selected s p) s f l
act_alike (set_site p u) s f t l = tree_alike p _ s f l
act_alike (copy_site p q) s f t l = copy_alike p (selected s q) s f l
act_alike (append_value_to p u) s f t l = tree_alike p _ s f l
act_alike (append_site p q) s f t l = append_alike p (selected s q) s f l
act_alike (erase_site p) s f t l = tree_alike p _ s f l
act_alike (open_place i) s f t l = as_was (after_act (open_place i) s) f l
act_alike (make_list zs) s f t l = as_was (after_act (make_list zs) s) f l
act_alike (save_list p) s f t l = tree_alike p _ s f l
act_alike (restore_list p) s f t l = list_alike (some_ints (selected s p)) s f l

check_alike : (c : Check) (s : State) (f : Text → Option ℤ) → check_avoids_sched c ≡ true → IsLike f s.scores → check_holds c (with_scores s f) ≡ check_holds c s
check_alike (in_range x r) s f t l = ap (some_is_in r) (read_alike x s f t l)
check_alike (compare x p y) s f t l = ap (λ o. both_compare p o (read (with_scores s f) y)) (read_alike x s f (and_first _ _ t) l) ∙ ap (λ o. both_compare p (read s x) o) (read_alike y s f (and_second (spot_avoids_sched x) _ t) l)
check_alike (stands p) s f t l = refl

cond_alike : (c : Cond) (s : State) (f : Text → Option ℤ) → cond_avoids_sched c ≡ true → IsLike f s.scores → cond_holds c (with_scores s f) ≡ cond_holds c s
cond_alike (holds c) s f t l = check_alike c s f t l
cond_alike (fails c) s f t l = ap not (check_alike c s f t l)

conds_alike : (cs : List Cond) (s : State) (f : Text → Option ℤ) → list_all cond_avoids_sched cs ≡ true → IsLike f s.scores → conds_hold cs (with_scores s f) ≡ conds_hold cs s
conds_alike [] s f t l = refl
conds_alike (c ∷ cs) s f t l = ap (λ b. b && conds_hold cs (with_scores s f)) (cond_alike c s f (and_first _ _ t) l) ∙ ap (λ b. cond_holds c s && b) (conds_alike cs s f (and_second (cond_avoids_sched c) _ t) l)

-- ---- what is needed

spot_ready : (x : Spot) (s : State) (f : Text → Option ℤ) → SpotReady x s → SpotReady x (with_scores s f)
spot_ready (scratch h) s f w = w
spot_ready (placed i) s f w = w

act_ready : (a : Act) (s : State) (f : Text → Option ℤ) → ActReady a s → ActReady a (with_scores s f)
act_ready (set_spot x z) s f w = spot_ready x s f w
act_ready (increase x n) s f w = spot_ready x s f w
act_ready (decrease x n) s f w = spot_ready x s f w
act_ready (combine x op y) s f w = (spot_ready x s f w.0, spot_ready y s f w.1)
act_ready (set_place i z) s f w = w
act_ready (copy_place i j) s f w = w
act_ready (load_place h i) s f w = w
act_ready (keep_place i h) s f w = w
act_ready (load_site h p) s f w = w
act_ready (keep_site p h) s f w = w
act_ready (place_to_site p i) s f w = w
act_ready (site_to_place i p) s f w = w
act_ready (set_site p u) s f w = w
act_ready (copy_site p q) s f w = w
act_ready (append_value_to p u) s f w = w
act_ready (append_site p q) s f w = w
act_ready (erase_site p) s f w = w
act_ready (open_place i) s f w = w
act_ready (make_list zs) s f w = w
act_ready (save_list p) s f w = w
act_ready (restore_list p) s f w = w

check_ready : (c : Check) (s : State) (f : Text → Option ℤ) → CheckReady c s → CheckReady c (with_scores s f)
check_ready (in_range x r) s f w = spot_ready x s f w
check_ready (compare x p y) s f w = (spot_ready x s f w.0, spot_ready y s f w.1)
check_ready (stands p) s f w = w

pub conds_ready : (cs : List Cond) (s : State) (f : Text → Option ℤ) → CondsReady cs s → CondsReady cs (with_scores s f)
conds_ready [] s f w = w
conds_ready (holds c ∷ cs) s f w = (check_ready c s f w.0, conds_ready cs s f w.1)
conds_ready (fails c ∷ cs) s f w = (check_ready c s f w.0, conds_ready cs s f w.1)

step_ready : (x : Step) (s : State) (f : Text → Option ℤ) → step_avoids_sched x ≡ true → IsLike f s.scores → StepReady x s → StepReady x (with_scores s f)
step_ready (run_act a) s f t l w = act_ready a s f w
step_ready (when cs a) s f t l w = (conds_ready cs s f w.0, λ e. act_ready a s f (w.1 (sym (conds_alike cs s f (and_first _ _ t) l) ∙ e)))
step_ready (stop_when cs) s f t l w = conds_ready cs s f w

stops_alike : (x : Step) (s : State) (f : Text → Option ℤ) → step_avoids_sched x ≡ true → IsLike f s.scores → stops x (with_scores s f) ≡ stops x s
stops_alike (run_act a) s f t l = refl
stops_alike (when cs a) s f t l = refl
stops_alike (stop_when cs) s f t l = conds_alike cs s f t l

step_alike : (x : Step) (s : State) (f : Text → Option ℤ) → step_avoids_sched x ≡ true → IsLike f s.scores → Alike (after_step x s) (after_step x (with_scores s f)) f
step_alike (run_act a) s f t l = act_alike a s f t l
step_alike (when cs a) s f t l = go (conds_hold cs s) (conds_hold cs (with_scores s f)) (conds_alike cs s f (and_first _ _ t) l)
  where
    go : (b d : Bool) → d ≡ b → Alike (if b then after_act a s else s) (if d then after_act a (with_scores s f) else with_scores s f) f
    go true true e = act_alike a s f (and_second (list_all cond_avoids_sched cs) _ t) l
    go false false e = as_was s f l
    go true false e = absurd cc
    go false true e = absurd cc
step_alike (stop_when cs) s f t l = as_was s f l

-- ---- lists of steps, and items

-- the flow of the one list is that of the other one, with like scores
pub record FlowAlike (x y : Flow) (f : Text → Option ℤ) : Type 0 where
  pub stopped : y.stopped ≡ x.stopped
  pub used : y.used ≡ x.used
  pub state : Alike x.state y.state f

-- where the first list of lines goes on, and where it doesn't
after_first : (b : Bool) (k : ℕ) (x y : State) (f : Text → Option ℤ) (p q : Flow) → Alike x y f → (b ≡ false → FlowAlike p q f) → FlowAlike (if b then flow true x k else more k p) (if b then flow true y k else more k q) f
after_first true k x y f p q a r = record { stopped = refl; used = refl; state = a }
after_first false k x y f p q a r = let z = r refl in record { stopped = z.stopped; used = ap (λ n. k + n) z.used; state = z.state }

kept_on : (x y : State) (f g : Text → Option ℤ) → IsKept g f → Alike x y g → Alike x y f
kept_on x y f g k a = record { scores = a.scores; is = a.is; like = a.like; kept = λ h e. a.kept h e ∙ k h e }

flow_kept : (p q : Flow) (f g : Text → Option ℤ) → IsKept g f → FlowAlike p q g → FlowAlike p q f
flow_kept p q f g k r = record { stopped = r.stopped; used = r.used; state = kept_on p.state q.state f g k r.state }

steps_alike : (xs : List Step) (s : State) (f : Text → Option ℤ) → list_all step_avoids_sched xs ≡ true → IsLike f s.scores → FlowAlike (run_steps xs s) (run_steps xs (with_scores s f)) f
steps_alike [] s f t l = record { stopped = refl; used = refl; state = as_was s f l }
steps_alike (x ∷ xs) s f t l =
    let a = step_alike x s f (and_first _ _ t) l in
    let l2 : IsLike a.scores (after_step x s).scores = a.like in
    let r = steps_alike xs (after_step x s) a.scores (and_second (step_avoids_sched x) _ t) l2 in
    let r2 : FlowAlike (run_steps xs (after_step x s)) (run_steps xs (after_step x (with_scores s f))) f =
    subst (λ u. FlowAlike (run_steps xs (after_step x s)) (run_steps xs u) f) (sym a.is) (flow_kept _ _ f a.scores a.kept r) in
    go (stops x s) refl (stops x (with_scores s f)) (stops_alike x s f (and_first _ _ t) l) r2
  where
    go : (b : Bool) → stops x s ≡ b → (c : Bool) → c ≡ stops x s → FlowAlike (run_steps xs (after_step x s)) (run_steps xs (after_step x (with_scores s f))) f
        → FlowAlike (if stops x s then flow true s (step_weight x) else more (step_weight x) (run_steps xs (after_step x s))) (if c then flow true (with_scores s f) (step_weight x) else more (step_weight x) (run_steps xs (after_step x (with_scores s f)))) f
    go b e c g r = subst (λ d. FlowAlike (if stops x s then flow true s (step_weight x) else more (step_weight x) (run_steps xs (after_step x s))) (if d then flow true (with_scores s f) (step_weight x) else more (step_weight x) (run_steps xs (after_step x (with_scores s f)))) f) (sym g)
        (after_first (stops x s) (step_weight x) s (with_scores s f) f _ _ (as_was s f l) (λ _. r))

steps_ready_alike : (xs : List Step) (s : State) (f : Text → Option ℤ) → list_all step_avoids_sched xs ≡ true → IsLike f s.scores → Ready xs s → Ready xs (with_scores s f)
steps_ready_alike [] s f t l w = w
steps_ready_alike (x ∷ xs) s f t l w =
    let a = step_alike x s f (and_first _ _ t) l in
    (step_ready x s f (and_first _ _ t) l w.0, λ e. subst (Ready xs) (sym a.is) (steps_ready_alike xs (after_step x s) a.scores (and_second (step_avoids_sched x) _ t) a.like (w.1 (sym (stops_alike x s f (and_first _ _ t) l) ∙ e))))

-- a holder that begins with such a stem is no score of the scheduler
stem_avoids : (h d : Text) → stem_avoids_sched h ≡ true → not (is_sched_score (h ++ d)) ≡ true
stem_avoids [] d f = absurd cc
stem_avoids (a ∷ []) d f = absurd cc
stem_avoids (a ∷ (b ∷ t)) d f = by (nat_eq 35 a) (nat_eq 104 b) (nat_eq 119 b) (and_first _ _ f) (and_second (not (nat_eq 104 b)) _ f)
  where
    by : (x y z : Bool) → not y ≡ true → not z ≡ true → not ((x && (y && bytes_eq (95 ∷ []) (take 1 (t ++ d)))) || (x && (z && bytes_eq [] (t ++ d)))) ≡ true
    by x true z f g = absurd cc
    by x false true f g = absurd cc
    by true false false f g = refl
    by false false false f g = refl

-- the lines of a helper that is filled
filled_avoid_sched : (r : Ints) (xs : List OpenStep) → list_all open_avoids_sched xs ≡ true → list_all step_avoids_sched (steps_with r xs) ≡ true
filled_avoid_sched r [] t = refl
filled_avoid_sched r (x ∷ xs) t = and_both _ _ (one x (and_first _ _ t)) (filled_avoid_sched r xs (and_second (open_avoids_sched x) _ t))
  where
    act : (a : OpenAct) → open_act_avoids_sched a ≡ true → act_avoids_sched (act_with r a) ≡ true
    act (open_set_spot x n) t = t
    act (open_combine x op h n) t = and_both _ _ (and_first _ _ t) (stem_avoids h (signed_decimal (r n)) (and_second (spot_avoids_sched x) _ t))
    act (open_load_site h p) t = t
    act (open_keep_site p h) t = t
    act (open_place_to_site p i) t = t
    act (open_site_to_place i p) t = t
    act (open_set_site p u) t = t
    act (open_copy_site p q) t = t

    one : (x : OpenStep) → open_avoids_sched x ≡ true → step_avoids_sched (step_with r x) ≡ true
    one (closed_step x) t = t
    one (open_act a) t = act a t
    one (open_when cs a) t = and_both _ _ (and_first _ _ t) (act a (and_second (list_all cond_avoids_sched cs) _ t))

called_alike : (k : ℕ) (p q : Flow) (f : Text → Option ℤ) → FlowAlike p q f → FlowAlike (called k p) (called k q) f
called_alike k p q f r = record { stopped = refl; used = ap (λ n. k + n) r.used; state = r.state }

chosen_alike : (cs : List Cond) (s : State) (f : Text → Option ℤ) (p q : Flow) → list_all cond_avoids_sched cs ≡ true → IsLike f s.scores → FlowAlike p q f → FlowAlike (if conds_hold cs s then called 2 p else flow false s 2) (if conds_hold cs (with_scores s f) then called 2 q else flow false (with_scores s f) 2) f
chosen_alike cs s f p q t l r = go (conds_hold cs s) (conds_hold cs (with_scores s f)) (conds_alike cs s f t l)
  where
    go : (b d : Bool) → d ≡ b → FlowAlike (if b then called 2 p else flow false s 2) (if d then called 2 q else flow false (with_scores s f) 2) f
    go true true e = called_alike 2 p q f r
    go false false e = record { stopped = refl; used = refl; state = as_was s f l }
    go true false e = absurd cc
    go false true e = absurd cc

join_alike : (x y : Flow) (f : Text → Option ℤ) (p q : Flow) → FlowAlike x y f → FlowAlike p q f → FlowAlike (if x.stopped then x else more x.used p) (if y.stopped then y else more y.used q) f
join_alike x y f p q a r = go x.stopped y.stopped a.stopped
  where
    go : (b c : Bool) → c ≡ b → FlowAlike (if b then x else more x.used p) (if c then y else more y.used q) f
    go true true e = a
    go false false e = record { stopped = r.stopped; used = ap (λ n. n + q.used) a.used ∙ ap (λ n. x.used + n) r.used; state = r.state }
    go true false e = absurd cc
    go false true e = absurd cc

mutual
  item_alike : (x : Item) (s : State) (f : Text → Option ℤ) → item_avoids_sched x ≡ true → IsLike f s.scores → FlowAlike (run_item x s) (run_item x (with_scores s f)) f
  item_alike (step_item x) s f t l = record { stopped = stops_alike x s f t l; used = refl; state = step_alike x s f t l }
  item_alike (call_item g xs) s f t l = called_alike 1 _ _ f (items_alike xs s f t l)
  item_alike (call_when cs g xs) s f t l = chosen_alike cs s f (run_items xs s) (run_items xs (with_scores s f)) (and_first _ _ t) l (items_alike xs s f (and_second (list_all cond_avoids_sched cs) _ t) l)
  item_alike (fill_item g p xs) s f t l = called_alike 1 _ _ f (steps_alike (filled_steps p xs s) s f (filled_avoid_sched _ xs t) l)
  item_alike (fill_when cs g p xs) s f t l = chosen_alike cs s f (run_steps (filled_steps p xs s) s) (run_steps (filled_steps p xs s) (with_scores s f)) (and_first _ _ t) l (steps_alike (filled_steps p xs s) s f (filled_avoid_sched _ xs (and_second (list_all cond_avoids_sched cs) _ t)) l)

  items_alike : (xs : Items) (s : State) (f : Text → Option ℤ) → items_avoid_sched xs ≡ true → IsLike f s.scores → FlowAlike (run_items xs s) (run_items xs (with_scores s f)) f
  items_alike no_more s f t l = record { stopped = refl; used = refl; state = as_was s f l }
  items_alike (first x xs) s f t l =
      let a = item_alike x s f (and_first _ _ t) l in
      let r = items_alike xs (run_item x s).state a.state.scores (and_second (item_avoids_sched x) _ t) a.state.like in
      join_alike (run_item x s) (run_item x (with_scores s f)) f (run_items xs (run_item x s).state) (run_items xs (run_item x (with_scores s f)).state) a
      (subst (λ u. FlowAlike (run_items xs (run_item x s).state) (run_items xs u) f) (sym a.state.is) (flow_kept _ _ f a.state.scores a.state.kept r))

mutual
  item_ready_alike : (x : Item) (s : State) (f : Text → Option ℤ) → item_avoids_sched x ≡ true → IsLike f s.scores → ItemReady x s → ItemReady x (with_scores s f)
  item_ready_alike (step_item x) s f t l w = step_ready x s f t l w
  item_ready_alike (call_item g xs) s f t l w = items_ready_alike xs s f t l w
  item_ready_alike (call_when cs g xs) s f t l w = (conds_ready cs s f w.0, λ e. items_ready_alike xs s f (and_second (list_all cond_avoids_sched cs) _ t) l (w.1 (sym (conds_alike cs s f (and_first _ _ t) l) ∙ e)))
  item_ready_alike (fill_item g p xs) s f t l w = (w.0, steps_ready_alike (filled_steps p xs s) s f (filled_avoid_sched _ xs t) l w.1)
  item_ready_alike (fill_when cs g p xs) s f t l w = (conds_ready cs s f w.0, λ e. let z = w.1 (sym (conds_alike cs s f (and_first _ _ t) l) ∙ e) in (z.0, steps_ready_alike (filled_steps p xs s) s f (filled_avoid_sched _ xs (and_second (list_all cond_avoids_sched cs) _ t)) l z.1))

  items_ready_alike : (xs : Items) (s : State) (f : Text → Option ℤ) → items_avoid_sched xs ≡ true → IsLike f s.scores → ItemsReady xs s → ItemsReady xs (with_scores s f)
  items_ready_alike no_more s f t l w = w
  items_ready_alike (first x xs) s f t l w =
      let a = item_alike x s f (and_first _ _ t) l in
      (item_ready_alike x s f (and_first _ _ t) l w.0, λ e. subst (ItemsReady xs) (sym a.state.is) (items_ready_alike xs (run_item x s).state a.state.scores (and_second (item_avoids_sched x) _ t) a.state.like (w.1 (sym a.stopped ∙ e))))

-- ---- the charge

-- items that are level go on, and use the most that they weigh

level_step : (x : Step) (s : State) → step_leads_on x ≡ true → stops x s ≡ false
level_step (run_act a) s h = refl
level_step (when cs a) s h = refl
level_step (stop_when cs) s h = absurd cc

going_on : (b : Bool) (p q : Flow) → b ≡ false → (if b then p else q) ≡ q
going_on false p q e = refl
going_on true p q e = absurd cc

-- a flow that goes on, and uses so much
abbrev Uses : Flow → ℕ → Type 0
Uses f k = (f.stopped ≡ false) × (f.used ≡ k)

uses_more : (f g : Flow) (j k : ℕ) → f.used ≡ j → Uses g k → Uses (more f.used g) (j + k)
uses_more f g j k e u = (u.0, ap (λ n. n + g.used) e ∙ ap (λ n. j + n) u.1)

steps_level : (xs : List Step) (s : State) → list_all step_leads_on xs ≡ true → Uses (run_steps xs s) (steps_weight xs)
steps_level [] s h = (refl, refl)
steps_level (x ∷ xs) s h =
    subst (λ f. Uses f (step_weight x + steps_weight xs))
    (sym (going_on (stops x s) (flow true s (step_weight x)) (more (step_weight x) (run_steps xs (after_step x s))) (level_step x s (and_first _ _ h))))
    (uses_more (flow false s (step_weight x)) (run_steps xs (after_step x s)) (step_weight x) (steps_weight xs) refl (steps_level xs (after_step x s) (and_second (step_leads_on x) _ h)))

filled_lead_on : (r : Ints) (xs : List OpenStep) → list_all open_leads_on xs ≡ true → list_all step_leads_on (steps_with r xs) ≡ true
filled_lead_on r [] h = refl
filled_lead_on r (closed_step x ∷ xs) h = and_both _ _ (and_first _ _ h) (filled_lead_on r xs (and_second (step_leads_on x) _ h))
filled_lead_on r (open_act a ∷ xs) h = filled_lead_on r xs h
filled_lead_on r (open_when cs a ∷ xs) h = filled_lead_on r xs h

filled_level : (p : Site) (xs : List OpenStep) (s : State) → list_all open_leads_on xs ≡ true → (run_steps (filled_steps p xs s) s).used ≡ steps_weight (steps_with (λ n. pos 0) xs)
filled_level p xs s h = (steps_level (filled_steps p xs s) s (filled_lead_on _ xs h)).1 ∙ open_weights _ (λ n. pos 0) xs

mutual
  item_level : (x : Item) (s : State) → item_is_level x ≡ true → Uses (run_item x s) (item_most x)
  item_level (step_item x) s h = (level_step x s h, refl)
  item_level (call_item f xs) s h = (refl, ap (λ n. 1 + n) (items_level xs s h).1)
  item_level (call_when cs f xs) s h = absurd cc
  item_level (fill_item f p xs) s h = (refl, ap (λ n. 1 + n) (filled_level p xs s h))
  item_level (fill_when cs f p xs) s h = absurd cc

  items_level : (xs : Items) (s : State) → items_are_level xs ≡ true → Uses (run_items xs s) (items_most xs)
  items_level no_more s h = (refl, refl)
  items_level (first x xs) s h =
      let a = item_level x s (and_first _ _ h) in
      subst (λ f. Uses f (item_most x + items_most xs))
      (sym (going_on (run_item x s).stopped (run_item x s) (more (run_item x s).used (run_items xs (run_item x s).state)) a.0))
      (uses_more (run_item x s) (run_items xs (run_item x s).state) (item_most x) (items_most xs) a.1 (items_level xs (run_item x s).state (and_second (item_is_level x) _ h)))

even_used : (x : Item) (s : State) → item_is_even x ≡ true → (run_item x s).used ≡ item_most x
even_used (step_item x) s h = refl
even_used (call_item f xs) s h = ap (λ n. 1 + n) (items_level xs s h).1
even_used (call_when cs f xs) s h = absurd cc
even_used (fill_item f p xs) s h = ap (λ n. 1 + n) (filled_level p xs s h)
even_used (fill_when cs f p xs) s h = absurd cc

record Chg (n : ℕ) (xs ys : Items) (s : State) (f : Text → Option ℤ) : Type 0 where
  ready : ItemsReady ys (with_scores s f)
  scores : Text → Option ℤ
  state : (run_items ys (with_scores s f)).state ≡ with_scores (run_items xs s).state scores
  like : IsLike scores (run_items xs s).state.scores
  kept : (h : Text) → is_sched_score h ≡ true → bytes_eq score_budget h ≡ false → scores h ≡ f h
  charge : ℕ
  left : scores score_budget ≡ lowered (f score_budget) charge
  covers : n + (run_items ys (with_scores s f)).used ≤ charge
  bounded : charge ≤ n + items_most ys
  exact : items_are_even xs ≡ true → charge ≡ n + (run_items ys (with_scores s f)).used

put_like : (f g : Text → Option ℤ) (z : ℤ) → IsLike f g → IsLike (with_holder f score_budget z) g
put_like f g z l h e = go (bytes_eq score_budget h) refl
  where
    go : (b : Bool) → bytes_eq score_budget h ≡ b → (if b then Some z else f h) ≡ g h
    go false q = l h e
    go true q = absurd (let same : score_budget ≡ h = (bytes_eq-Decides score_budget h).0 q in let x : true ≡ false = ap is_sched_score same ∙ e in cc)

put_kept : (f : Text → Option ℤ) (z : ℤ) (h : Text) → bytes_eq score_budget h ≡ false → with_holder f score_budget z h ≡ f h
put_kept f z h e = ap (λ b. if b then Some z else f h) e

-- what is taken twice is taken at once
pub lowered_twice : (o : Option ℤ) (a b : ℕ) → lowered (lowered o a) b ≡ lowered o (a + b)
lowered_twice o a b =
    let z : ℤ = or_zero o in
    let e : (y : ℤ) → y -ℤ pos b ≡ y +ℤ (pos 0 -ℤ pos b) = λ y. omega (arith, ints) in
    let f : (z -ℤ pos a) -ℤ pos b ≡ z -ℤ pos (a + b) = omega (arith, ints) in
    ap Some (ap wrapped (e (wrapped (z -ℤ pos a))) ∙ int_wrap-add_left w32 (z -ℤ pos a) (pos 0 -ℤ pos b) ∙ ap wrapped (sym (e (z -ℤ pos a)) ∙ f))

-- an item that doesn't end its list
chg_item : (n : ℕ) (x : Item) (xs ys : Items) (s : State) (f : Text → Option ℤ) → (run_item x s).stopped ≡ false → ItemReady x s → item_avoids_sched x ≡ true → IsLike f s.scores
    → ((g : Text → Option ℤ) → IsLike g (run_item x s).state.scores → Chg (n + item_most x) xs ys (run_item x s).state g) → Chg n (first x xs) (first x ys) s f
chg_item n x xs ys s f e w t l more_of =
    let a = item_alike x s f t l in
    let r = more_of a.state.scores a.state.like in
    let e' : (run_item x (with_scores s f)).stopped ≡ false = a.stopped ∙ e in
    let one : run_items (first x xs) s ≡ more (run_item x s).used (run_items xs (run_item x s).state) = ap (λ b. if b then run_item x s else more (run_item x s).used (run_items xs (run_item x s).state)) e in
    let two : run_items (first x ys) (with_scores s f) ≡ more (run_item x s).used (run_items ys (with_scores (run_item x s).state a.state.scores)) =
    ap (λ b. if b then run_item x (with_scores s f) else more (run_item x (with_scores s f)).used (run_items ys (run_item x (with_scores s f)).state)) e'
    ∙ ap (λ k. more k (run_items ys (run_item x (with_scores s f)).state)) a.used ∙ ap (λ u. more (run_item x s).used (run_items ys u)) a.state.is in
    let heavy : (run_items (first x ys) (with_scores s f)).used ≡ (run_item x s).used + (run_items ys (with_scores (run_item x s).state a.state.scores)).used = ap (λ q. q.used) two in
    let alone : (run_items (first x no_more) s).used ≡ (run_item x s).used + 0 = ap (λ b. (if b then run_item x s else more (run_item x s).used (flow false (run_item x s).state 0)).used) e in
    let low = items_within (first x no_more) s in
    let c = r.covers in
    let b = r.bounded in
    record {
      ready = (item_ready_alike x s f t l w, λ q. subst (ItemsReady ys) (sym a.state.is) r.ready);
      scores = r.scores;
      state = ap (λ u. u.state) two ∙ r.state ∙ ap (λ u. with_scores u.state r.scores) (sym one);
      like = λ h q. r.like h q ∙ ap (λ u. u.state.scores h) (sym one);
      kept = λ h q v. r.kept h q v ∙ a.state.kept h q;
      charge = r.charge;
      left = r.left ∙ ap (λ o. lowered o r.charge) (a.state.kept score_budget refl);
      covers = (let z : n + (run_items (first x ys) (with_scores s f)).used ≤ r.charge = omega arith in z);
      bounded = (let z : r.charge ≤ n + (item_most x + items_most ys) = omega arith in z);
      exact = λ q. (let d = even_used x s (and_first _ _ q) in let v = r.exact (and_second (item_is_even x) _ q) in let z : r.charge ≡ n + (run_items (first x ys) (with_scores s f)).used = omega arith in z);
    }

goes_on : (b : Bool) (p : Flow) (s : State) → (if b then called 2 p else flow false s 2).stopped ≡ false
goes_on true p s = refl
goes_on false p s = refl

-- what is left of the budget of these scores
abbrev lower : (Text → Option ℤ) → ℕ → Text → Option ℤ
lower f k = with_holder f score_budget (wrapped (or_zero (f score_budget) -ℤ pos k))

-- each way takes what it weighed, and nothing else differs
chg : (n : ℕ) (xs : Items) (s : State) (f : Text → Option ℤ) → items_avoid_sched xs ≡ true → ItemsReady xs s → IsLike f s.scores → Chg n xs (charge n xs) s f
chg n no_more s f t w l = record {
  ready = (tt, λ e. tt);
  scores = lower f (n + 1);
  state = refl;
  like = put_like f s.scores _ l;
  kept = λ h e q. put_kept f _ h q;
  charge = n + 1;
  left = refl;
  covers = (let z : n + 1 ≤ n + 1 = omega arith in z);
  bounded = (let z : n + 1 ≤ n + 1 = omega arith in z);
  exact = λ q. refl;
}
chg n (first (step_item (run_act a)) xs) s f t w l = chg_item n (step_item (run_act a)) xs (charge (n + item_most (step_item (run_act a))) xs) s f refl w.0 (and_first _ _ t) l (λ g q. chg (n + item_most (step_item (run_act a))) xs _ g (and_second (item_avoids_sched (step_item (run_act a))) _ t) (w.1 refl) q)
chg n (first (step_item (when cs a)) xs) s f t w l = chg_item n (step_item (when cs a)) xs (charge (n + item_most (step_item (when cs a))) xs) s f refl w.0 (and_first _ _ t) l (λ g q. chg (n + item_most (step_item (when cs a))) xs _ g (and_second (item_avoids_sched (step_item (when cs a))) _ t) (w.1 refl) q)
chg n (first (call_item h ys) xs) s f t w l = chg_item n (call_item h ys) xs (charge (n + item_most (call_item h ys)) xs) s f refl w.0 (and_first _ _ t) l (λ g q. chg (n + item_most (call_item h ys)) xs _ g (and_second (item_avoids_sched (call_item h ys)) _ t) (w.1 refl) q)
chg n (first (call_when cs h ys) xs) s f t w l = chg_item n (call_when cs h ys) xs (charge (n + item_most (call_when cs h ys)) xs) s f (goes_on (conds_hold cs s) (run_items ys s) s) w.0 (and_first _ _ t) l (λ g q. chg (n + item_most (call_when cs h ys)) xs _ g (and_second (item_avoids_sched (call_when cs h ys)) _ t) (w.1 (goes_on (conds_hold cs s) (run_items ys s) s)) q)
chg n (first (fill_item h p ys) xs) s f t w l = chg_item n (fill_item h p ys) xs (charge (n + item_most (fill_item h p ys)) xs) s f refl w.0 (and_first _ _ t) l (λ g q. chg (n + item_most (fill_item h p ys)) xs _ g (and_second (item_avoids_sched (fill_item h p ys)) _ t) (w.1 refl) q)
chg n (first (fill_when cs h p ys) xs) s f t w l = chg_item n (fill_when cs h p ys) xs (charge (n + item_most (fill_when cs h p ys)) xs) s f (goes_on (conds_hold cs s) (run_steps (filled_steps p ys s) s) s) w.0 (and_first _ _ t) l (λ g q. chg (n + item_most (fill_when cs h p ys)) xs _ g (and_second (item_avoids_sched (fill_when cs h p ys)) _ t) (w.1 (goes_on (conds_hold cs s) (run_steps (filled_steps p ys s) s) s)) q)
chg n (first (step_item (stop_when cs)) xs) s f t w l = go (conds_hold cs s) refl (λ e. chg 0 xs s (lower f (n + 3)) (and_second (list_all cond_avoids_sched cs) _ t) (w.1 e) (put_like f s.scores _ l))
  where
    g : Text → Option ℤ
    g = lower f (n + 3)

    gl : IsLike g s.scores
    gl = put_like f s.scores _ l

    ys : Items
    ys = charge 0 xs

    same : conds_hold cs (with_scores s g) ≡ conds_hold cs s
    same = conds_alike cs s g (and_first _ _ t) gl

    run_xs : (b : Bool) → conds_hold cs s ≡ b → run_items (first (step_item (stop_when cs)) xs) s ≡ (if b then flow b s 2 else more 2 (run_items xs s))
    run_xs b e = ap (λ c. if c then flow c s 2 else more 2 (run_items xs s)) e

    run_ys : (b : Bool) → conds_hold cs s ≡ b → run_items (charge n (first (step_item (stop_when cs)) xs)) (with_scores s f) ≡ more 1 (if b then flow b (with_scores s g) 2 else more 2 (run_items ys (with_scores s g)))
    run_ys b e = ap (λ c. more 1 (if c then flow c (with_scores s g) 2 else more 2 (run_items ys (with_scores s g)))) (same ∙ e)

    go : (b : Bool) → conds_hold cs s ≡ b → (conds_hold cs s ≡ false → Chg 0 xs (charge 0 xs) s (lower f (n + 3))) → Chg n (first (step_item (stop_when cs)) xs) (charge n (first (step_item (stop_when cs)) xs)) s f
    go true e more_of =
        let used : (run_items (charge n (first (step_item (stop_when cs)) xs)) (with_scores s f)).used ≡ 3 = ap (λ q. q.used) (run_ys true e) in
        record {
          ready = (tt, λ q. (conds_ready cs s g w.0, λ v. absurd (let x : true ≡ false = sym (same ∙ e) ∙ v in cc)));
          scores = g;
          state = ap (λ q. q.state) (run_ys true e) ∙ ap (λ q. with_scores q.state g) (sym (run_xs true e));
          like = λ h q. gl h q ∙ ap (λ x. x.state.scores h) (sym (run_xs true e));
          kept = λ h q v. put_kept f _ h v;
          charge = n + 3;
          left = refl;
          covers = (let x : n + (run_items (charge n (first (step_item (stop_when cs)) xs)) (with_scores s f)).used ≤ n + 3 = omega arith in x);
          bounded = (let x : n + 3 ≤ n + (1 + (2 + items_most ys)) = omega arith in x);
          exact = λ q. (let x : n + 3 ≡ n + (run_items (charge n (first (step_item (stop_when cs)) xs)) (with_scores s f)).used = omega arith in x);
        }
    go false e more_of =
        let r = more_of e in
        let used : (run_items (charge n (first (step_item (stop_when cs)) xs)) (with_scores s f)).used ≡ 1 + (2 + (run_items ys (with_scores s g)).used) = ap (λ q. q.used) (run_ys false e) in
        let c = r.covers in
        let b = r.bounded in
        record {
          ready = (tt, λ q. (conds_ready cs s g w.0, λ v. r.ready));
          scores = r.scores;
          state = ap (λ q. q.state) (run_ys false e) ∙ r.state ∙ ap (λ q. with_scores q.state r.scores) (sym (run_xs false e));
          like = λ h q. r.like h q ∙ ap (λ x. x.state.scores h) (sym (run_xs false e));
          kept = λ h q v. r.kept h q v ∙ put_kept f _ h v;
          charge = n + 3 + r.charge;
          left = r.left ∙ lowered_twice (f score_budget) (n + 3) r.charge;
          covers = (let x : n + (run_items (charge n (first (step_item (stop_when cs)) xs)) (with_scores s f)).used ≤ n + 3 + r.charge = omega arith in x);
          bounded = (let x : n + 3 + r.charge ≤ n + (1 + (2 + items_most ys)) = omega arith in x);
          exact = λ q. (let v = r.exact q in let x : n + 3 + r.charge ≡ n + (run_items (charge n (first (step_item (stop_when cs)) xs)) (with_scores s f)).used = omega arith in x);
        }

-- THE CHARGE of a piece
pub pays : (xs : Items) (s : State) → items_avoid_sched xs ≡ true → ItemsReady xs s → Paid xs s
pays xs s t w =
    let r = chg round_weight xs s s.scores t w (λ h e. refl) in
    let c = r.covers in
    let b = r.bounded in
    let covers : (run_items (charge round_weight xs) s).used + round_weight ≤ r.charge = omega arith in
    let bounded : r.charge ≤ items_most (charge round_weight xs) + round_weight = omega arith in
    record {
      ready = r.ready;
      scores = r.scores;
      state = r.state;
      like = r.like;
      kept = r.kept;
      charged = record { charge = r.charge; left = ap (λ u. u.scores score_budget) r.state ∙ r.left; covers = covers; bounded = bounded };
      exact = λ q. (let v = r.exact q in let z : r.charge ≡ (run_items (charge round_weight xs) s).used + round_weight = omega arith in z);
    }

-- ---- what the charges change of items

-- so many more before
onward : (x a b c : ℕ) → a ≡ b + c → x + a ≡ (x + b) + c
onward x a b c e = omega arith

pub charge_most : (n : ℕ) (xs : Items) → items_most (charge n xs) ≡ items_most xs + exits xs
charge_most n no_more = refl
charge_most n (first (step_item (stop_when cs)) xs) = stopped (items_most (charge 0 xs)) (items_most xs) (exits xs) (charge_most 0 xs)
  where
    stopped : (a b c : ℕ) → a ≡ b + c → 1 + (2 + a) ≡ (2 + b) + suc c
    stopped a b c e = omega arith
charge_most n (first (step_item (run_act a)) xs) = onward (item_most (step_item (run_act a))) _ _ _ (charge_most (n + item_most (step_item (run_act a))) xs)
charge_most n (first (step_item (when cs a)) xs) = onward (item_most (step_item (when cs a))) _ _ _ (charge_most (n + item_most (step_item (when cs a))) xs)
charge_most n (first (call_item f ys) xs) = onward (item_most (call_item f ys)) _ _ _ (charge_most (n + item_most (call_item f ys)) xs)
charge_most n (first (call_when cs f ys) xs) = onward (item_most (call_when cs f ys)) _ _ _ (charge_most (n + item_most (call_when cs f ys)) xs)
charge_most n (first (fill_item f p ys) xs) = onward (item_most (fill_item f p ys)) _ _ _ (charge_most (n + item_most (fill_item f p ys)) xs)
charge_most n (first (fill_when cs f p ys) xs) = onward (item_most (fill_when cs f p ys)) _ _ _ (charge_most (n + item_most (fill_when cs f p ys)) xs)

further : (x a b : ℕ) → a ≤ b + 1 → a ≤ (x + b) + 1
further x a b e = omega arith

pub exits_few : (xs : Items) → exits xs ≤ items_most xs + 1
exits_few no_more = omega arith
exits_few (first (step_item (stop_when cs)) xs) = stopped (exits xs) (items_most xs) (exits_few xs)
  where
    stopped : (a b : ℕ) → a ≤ b + 1 → suc a ≤ (2 + b) + 1
    stopped a b e = omega arith
exits_few (first (step_item (run_act a)) xs) = further (item_most (step_item (run_act a))) _ _ (exits_few xs)
exits_few (first (step_item (when cs a)) xs) = further (item_most (step_item (when cs a))) _ _ (exits_few xs)
exits_few (first (call_item f ys) xs) = further (item_most (call_item f ys)) _ _ (exits_few xs)
exits_few (first (call_when cs f ys) xs) = further (item_most (call_when cs f ys)) _ _ (exits_few xs)
exits_few (first (fill_item f p ys) xs) = further (item_most (fill_item f p ys)) _ _ (exits_few xs)
exits_few (first (fill_when cs f p ys) xs) = further (item_most (fill_when cs f p ys)) _ _ (exits_few xs)

budget_spot : spot_fits (scratch score_budget) ≡ true
unfolding is_holder
budget_spot = refl

take_fits : (k : ℕ) → k < 2147483648 → item_fits (take_charge k) ≡ true
take_fits k h = and_both _ _ budget_spot (lt-ltb k 2147483648 h)

end_low : (n b : ℕ) → n + 2 * b ≤ 2000000000 → n + 1 < 2147483648
end_low n b h = omega arith

way_out_low : (n b : ℕ) → n + 2 * (2 + b) ≤ 2000000000 → n + 3 < 2147483648
way_out_low n b h = omega arith

past_way_out : (n b : ℕ) → n + 2 * (2 + b) ≤ 2000000000 → 0 + 2 * b ≤ 2000000000
past_way_out n b h = omega arith

past : (n x b : ℕ) → n + 2 * (x + b) ≤ 2000000000 → n + x + 2 * b ≤ 2000000000
past n x b h = omega arith

fits_from : (n : ℕ) (xs : Items) → items_fit xs ≡ true → n + 2 * items_most xs ≤ 2000000000 → items_fit (charge n xs) ≡ true
fits_from n no_more h l = and_both _ _ (take_fits (n + 1) (end_low n 0 l)) refl
fits_from n (first (step_item (stop_when cs)) xs) h l =
    and_both _ _ (take_fits (n + 3) (way_out_low n (items_most xs) l)) (and_both _ _ (and_first _ _ h) (fits_from 0 xs (and_second (step_fits (stop_when cs)) _ h) (past_way_out n (items_most xs) l)))
fits_from n (first (step_item (run_act a)) xs) h l = let x = step_item (run_act a) in and_both _ _ (and_first _ _ h) (fits_from (n + item_most x) xs (and_second (item_fits x) _ h) (past n (item_most x) (items_most xs) l))
fits_from n (first (step_item (when cs a)) xs) h l = let x = step_item (when cs a) in and_both _ _ (and_first _ _ h) (fits_from (n + item_most x) xs (and_second (item_fits x) _ h) (past n (item_most x) (items_most xs) l))
fits_from n (first (call_item f ys) xs) h l = let x = call_item f ys in and_both _ _ (and_first _ _ h) (fits_from (n + item_most x) xs (and_second (item_fits x) _ h) (past n (item_most x) (items_most xs) l))
fits_from n (first (call_when cs f ys) xs) h l = let x = call_when cs f ys in and_both _ _ (and_first _ _ h) (fits_from (n + item_most x) xs (and_second (item_fits x) _ h) (past n (item_most x) (items_most xs) l))
fits_from n (first (fill_item f p ys) xs) h l = let x = fill_item f p ys in and_both _ _ (and_first _ _ h) (fits_from (n + item_most x) xs (and_second (item_fits x) _ h) (past n (item_most x) (items_most xs) l))
fits_from n (first (fill_when cs f p ys) xs) h l = let x = fill_when cs f p ys in and_both _ _ (and_first _ _ h) (fits_from (n + item_most x) xs (and_second (item_fits x) _ h) (past n (item_most x) (items_most xs) l))

pub charge_fits : (n : ℕ) (xs : Items) → items_fit xs ≡ true → n + items_most xs ≤ 1000000000 → items_fit (charge n xs) ≡ true
charge_fits n xs h l = fits_from n xs h (omega arith)

pub charge_helpers : (ns : Text) (n : ℕ) (xs : Items) → items_helpers ns (charge n xs) ≡ items_helpers ns xs
charge_helpers ns n no_more = refl
charge_helpers ns n (first (step_item (stop_when cs)) xs) = charge_helpers ns 0 xs
charge_helpers ns n (first (step_item (run_act a)) xs) = charge_helpers ns (n + item_most (step_item (run_act a))) xs
charge_helpers ns n (first (step_item (when cs a)) xs) = charge_helpers ns (n + item_most (step_item (when cs a))) xs
charge_helpers ns n (first (call_item f ys) xs) = ap (λ hs. item_helpers ns (call_item f ys) ++ hs) (charge_helpers ns (n + item_most (call_item f ys)) xs)
charge_helpers ns n (first (call_when cs f ys) xs) = ap (λ hs. item_helpers ns (call_when cs f ys) ++ hs) (charge_helpers ns (n + item_most (call_when cs f ys)) xs)
charge_helpers ns n (first (fill_item f p ys) xs) = ap (λ hs. item_helpers ns (fill_item f p ys) ++ hs) (charge_helpers ns (n + item_most (fill_item f p ys)) xs)
charge_helpers ns n (first (fill_when cs f p ys) xs) = ap (λ hs. item_helpers ns (fill_when cs f p ys) ++ hs) (charge_helpers ns (n + item_most (fill_when cs f p ys)) xs)
