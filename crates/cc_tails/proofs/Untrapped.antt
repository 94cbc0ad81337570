-- Where items reach their end that write no trap behind their last stop at one, none is recorded.
use Rattle.std.proofs.Common.{◌≡◌, ℕ, List, [], ◌∷◌, Option, Some, None, Bool, true, false, refl, sym, ap, ◌∙◌, subst}
use Rattle.std.specs.Prelude.{ℤ, pos, ◌+ℤ◌, ◌-ℤ◌, ◌&&◌, ◌||◌, if◌then◌else◌, nat_lt}
use Rattle.std.specs.Str.{bytes_eq}
use Rattle.mc_nbt.specs.Tree.{Tree, int, string, list, compound}
use Rattle.mc_cmd.specs.Command.{Op, from}
use Rattle.mc_cmd.specs.Form.{Text}
use Rattle.mc_cmd.specs.World.{operate, or_zero, some_is_in, wrapped}
use Rattle.mc_cmd.specs.steps.OpenText.{Ints}
use Rattle.cc_line.specs.Key.{score_trap}
use Rattle.cc_line.specs.Place.{score_places, Spot, scratch, placed}
use Rattle.cc_line.specs.State.{State, Site, read, with_spot, with_place, with_score, number_at, selected, place_at, with_tree, with_copy, with_append_copy, with_some_list}
use Rattle.cc_line.specs.Step.{Act, set_spot, increase, decrease, combine, set_place, copy_place, load_place, keep_place, load_site, keep_site, place_to_site, site_to_place, set_site, copy_site, append_value_to, append_site, erase_site, open_place, make_list, save_list, restore_list, Step, run_act, when, stop_when, step_weight, with_some_spot, combined, with_kept, with_taken, some_ints, after_act, after_step, conds_hold, stops, Flow, flow, more, run_steps}
use Rattle.cc_line.specs.OpenStep.{OpenAct, open_set_spot, open_combine, open_load_site, open_keep_site, open_place_to_site, open_site_to_place, open_set_site, open_copy_site, OpenStep, closed_step, open_act, open_when, act_with, step_with, steps_with}
use Rattle.cc_line.specs.Item.{Item, step_item, call_item, call_when, fill_item, fill_when, Items, no_more, first, called, filled_steps, run_item, run_items}
use Rattle.cc_stops.specs.Law.{is_trapped}
use Rattle.cc_stops.specs.Stops.{has_trapped, is_trap_stop}
use Rattle.cc_stops.proofs.Runs.{stop_is}
use Rattle.cc_tails.specs.Tails.{spot_is_trap, act_traps, step_traps, open_act_traps, open_step_traps, open_steps_trap, item_traps, items_trap, ends_trapped}

or_first : (a b : Bool) → a || b ≡ false → a ≡ false
or_first true b e = e
or_first false b e = refl

or_second : (a b : Bool) → a || b ≡ false → b ≡ false
or_second true b e = absurd cc
or_second false b e = e

-- the trap's score is the same
abbrev Same : State → State → Type 0
Same s t = t.scores score_trap ≡ s.scores score_trap

-- ---- writes

same_score : (s : State) (h : Text) (z : ℤ) → bytes_eq h score_trap ≡ false → Same s (with_score s h z)
same_score s h z e = ap (λ b. if b then Some z else s.scores score_trap) e

same_spot : (s : State) (x : Spot) (z : ℤ) → spot_is_trap x ≡ false → Same s (with_spot s x z)
same_spot s (scratch h) z e = same_score s h z e
same_spot s (placed i) z e = refl

same_combined : (s : State) (x : Spot) (op : Op) (o : Option ℤ) → spot_is_trap x ≡ false → Same s (combined s x op o)
same_combined s x op None e = refl
same_combined s x op (Some b) e = go (operate op (or_zero (read s x)) b)
  where
    go : (o : Option ℤ) → Same s (with_some_spot s x o)
    go None = refl
    go (Some z) = same_spot s x z e

same_if : (b : Bool) (s t u : State) → Same s t → Same s u → Same s (if b then t else u)
same_if true s t u p q = p
same_if false s t u p q = q

same_kept : (s : State) (i : ℕ) (o : Option ℤ) → Same s (with_kept s i o)
same_kept s i None = same_if (nat_lt i score_places) s s (with_place s i (pos 0)) refl refl
same_kept s i (Some z) = refl

same_taken : (s : State) (i : ℕ) (o : Option Tree) → Same s (with_taken s i o)
same_taken s i None = same_if (nat_lt i score_places) s (with_place s i (pos 0)) s refl refl
same_taken s i (Some (int z)) = refl
same_taken s i (Some (string b)) = same_if (nat_lt i score_places) s (with_place s i (number_at (Some (string b)))) s refl refl
same_taken s i (Some (list ts)) = same_if (nat_lt i score_places) s (with_place s i (number_at (Some (list ts)))) s refl refl
same_taken s i (Some (compound fs)) = same_if (nat_lt i score_places) s (with_place s i (number_at (Some (compound fs)))) s refl refl

same_tree : (s : State) (p : Site) (o : Option Tree) → Same s (with_tree s p o)
same_tree s p None = refl
same_tree s p (Some t) = refl

same_copy : (s : State) (p : Site) (o : Option Tree) → Same s (with_copy s p o)
same_copy s p None = refl
same_copy s p (Some t) = same_tree s p _

same_append : (s : State) (p : Site) (o : Option Tree) → Same s (with_append_copy s p o)
same_append s p None = refl
same_append s p (Some t) = same_tree s p _

same_list : (s : State) (o : Option (List ℤ)) → Same s (with_some_list s o)
same_list s None = refl
same_list s (Some zs) = refl

-- ---- acts and steps

act_same : (a : Act) (s : State) → act_traps a ≡ false → Same s (after_act a s)
act_same (set_spot x z) s e = same_spot s x z e
act_same (increase x n) s e = same_spot s x (wrapped (or_zero (read s x) +ℤ pos n)) e
act_same (decrease x n) s e = same_spot s x (wrapped (or_zero (read s x) -ℤ pos n)) e
act_same (combine x op y) s e = same_combined s x op (read s y) e
act_same (set_place i z) s e = refl
act_same (copy_place i j) s e = refl
act_same (load_place h i) s e = same_score s h (place_at s i) e
act_same (keep_place i h) s e = same_kept s i (s.scores h)
act_same (load_site h p) s e = same_score s h (number_at (selected s p)) e
act_same (keep_site p h) s e = same_tree s p _
act_same (place_to_site p i) s e = same_tree s p _
act_same (site_to_place i p) s e = same_taken s i (selected s p)
act_same (set_site p t) s e = same_tree s p _
act_same (copy_site p q) s e = same_copy s p (selected s q)
act_same (append_value_to p t) s e = same_tree s p _
act_same (append_site p q) s e = same_append s p (selected s q)
act_same (erase_site p) s e = same_tree s p _
act_same (open_place i) s e = refl
act_same (make_list zs) s e = refl
act_same (save_list p) s e = same_tree s p _
act_same (restore_list p) s e = same_list s (some_ints (selected s p))

step_same : (x : Step) (s : State) → step_traps x ≡ false → Same s (after_step x s)
step_same (run_act a) s e = act_same a s e
step_same (when cs a) s e = same_if (conds_hold cs s) s (after_act a s) s (act_same a s e) refl
step_same (stop_when cs) s e = refl

open_act_same : (r : Ints) (a : OpenAct) → open_act_traps a ≡ false → act_traps (act_with r a) ≡ false
open_act_same r (open_set_spot x n) e = e
open_act_same r (open_combine x op h n) e = e
open_act_same r (open_load_site h p) e = e
open_act_same r (open_keep_site p h) e = refl
open_act_same r (open_place_to_site p i) e = refl
open_act_same r (open_site_to_place i p) e = refl
open_act_same r (open_set_site p t) e = refl
open_act_same r (open_copy_site p q) e = refl

open_step_same : (r : Ints) (x : OpenStep) → open_step_traps x ≡ false → step_traps (step_with r x) ≡ false
open_step_same r (closed_step x) e = e
open_step_same r (open_act a) e = open_act_same r a e
open_step_same r (open_when cs a) e = open_act_same r a e

-- ---- flows

flow_same : (b : Bool) (s : State) (f g : Flow) → Same s f.state → Same s g.state → Same s (if b then f else g).state
flow_same true s f g p q = p
flow_same false s f g p q = q

steps_same : (r : Ints) (xs : List OpenStep) (s : State) → open_steps_trap xs ≡ false → Same s (run_steps (steps_with r xs) s).state
steps_same r [] s e = refl
steps_same r (x ∷ xs) s e =
    flow_same (stops (step_with r x) s) s (flow true s (step_weight (step_with r x))) (more (step_weight (step_with r x)) (run_steps (steps_with r xs) (after_step (step_with r x) s))) refl
    (steps_same r xs (after_step (step_with r x) s) (or_second (open_step_traps x) _ e) ∙ step_same (step_with r x) s (open_step_same r x (or_first (open_step_traps x) _ e)))

mutual
  item_same : (x : Item) (s : State) → item_traps x ≡ false → Same s (run_item x s).state
  item_same (step_item x) s e = step_same x s e
  item_same (call_item f xs) s e = items_same xs s e
  item_same (call_when cs f xs) s e = flow_same (conds_hold cs s) s (called 2 (run_items xs s)) (flow false s 2) (items_same xs s e) refl
  item_same (fill_item f p xs) s e = steps_same _ xs s e
  item_same (fill_when cs f p xs) s e = flow_same (conds_hold cs s) s (called 2 (run_steps (filled_steps p xs s) s)) (flow false s 2) (steps_same _ xs s e) refl

  items_same : (xs : Items) (s : State) → items_trap xs ≡ false → Same s (run_items xs s).state
  items_same no_more s e = refl
  items_same (first x xs) s e =
      flow_same (run_item x s).stopped s (run_item x s) (more (run_item x s).used (run_items xs (run_item x s).state)) (item_same x s (or_first (item_traps x) _ e))
      (items_same xs (run_item x s).state (or_second (item_traps x) _ e) ∙ item_same x s (or_first (item_traps x) _ e))

-- ---- no trap is recorded

untrapped : (s t : State) → Same s t → is_trapped s ≡ false → is_trapped t ≡ false
untrapped s t e h = ap (λ o. some_is_in (from (pos 1)) o && true) e ∙ h

-- behind an item that goes on
behind : (x : Item) (b : Bool) (s : State) → (b ≡ false → is_trapped s ≡ false) → (run_item x s).stopped ≡ false → (if is_trap_stop x then false else (b || item_traps x)) ≡ false → is_trapped (run_item x s).state ≡ false
behind x b s h e f = go (is_trap_stop x) refl f
  where
    go : (c : Bool) → is_trap_stop x ≡ c → (if c then false else (b || item_traps x)) ≡ false → is_trapped (run_item x s).state ≡ false
    go true d k =
        let is : x ≡ step_item (stop_when has_trapped) = stop_is x d in
        subst (λ y. is_trapped (run_item y s).state ≡ false) (sym is) (subst (λ y. (run_item y s).stopped ≡ false) is e)
    go false d k = untrapped s (run_item x s).state (item_same x s (or_second b _ k)) (h (or_first b _ k))

pub ends_untrapped : (b : Bool) (xs : Items) (s : State) → (b ≡ false → is_trapped s ≡ false) → ends_trapped b xs ≡ false → (run_items xs s).stopped ≡ false → is_trapped (run_items xs s).state ≡ false
ends_untrapped b no_more s h e f = h e
ends_untrapped b (first x xs) s h e f = go (run_item x s).stopped refl f (λ g. ends_untrapped (if is_trap_stop x then false else (b || item_traps x)) xs (run_item x s).state g e)
  where
    p : Flow
    p = run_item x s

    go : (c : Bool) → p.stopped ≡ c → (if c then p else more p.used (run_items xs p.state)).stopped ≡ false
        → (((if is_trap_stop x then false else (b || item_traps x)) ≡ false → is_trapped p.state ≡ false) → (run_items xs p.state).stopped ≡ false → is_trapped (run_items xs p.state).state ≡ false)
        → is_trapped (if c then p else more p.used (run_items xs p.state)).state ≡ false
    go true d k ih = absurd (let y : true ≡ false = sym d ∙ k in cc)
    go false d k ih = ih (λ g. behind x b s h d g) k
