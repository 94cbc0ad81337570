-- A scratch score that is set stays so, and where items are sure each one that is kept to a place is set.
use Rattle.std.proofs.Common.{◌≡◌, ℕ, List, [], ◌∷◌, ◌++◌, Option, Some, None, Bool, true, false, refl, sym, ap, ◌∙◌, subst}
use Rattle.std.specs.Prelude.{ℤ, pos, not, ◌||◌, if◌then◌else◌, nat_lt}
use Rattle.std.specs.Str.{bytes_eq}
use Rattle.std.proofs.lemmas.Slice.Eq.{bytes_eq-Decides}
use Rattle.mc_nbt.specs.Tree.{Tree, int, string, list, compound}
use Rattle.mc_cmd.specs.Command.{Op, assign, add, subtract, multiply, divide, remainder, lower, raise, swap}
use Rattle.mc_cmd.specs.Form.{Text}
use Rattle.mc_cmd.specs.World.{operate, or_zero}
use Rattle.mc_cmd.specs.steps.OpenText.{Ints}
use Rattle.mc_cmd.proofs.FormLemmas.{and_first, and_second}
use Rattle.cc_line.specs.Sight.{with_holder}
use Rattle.cc_line.specs.Place.{score_places, Spot, scratch, placed}
use Rattle.cc_line.specs.State.{State, Site, read, with_spot, with_place, place_at, number_at, selected, with_tree, with_copy, with_append_copy, with_some_list}
use Rattle.cc_line.specs.Step.{Act, set_spot, increase, decrease, combine, set_place, copy_place, load_place, keep_place, load_site, keep_site, place_to_site, site_to_place, set_site, copy_site, append_value_to, append_site, erase_site, open_place, make_list, save_list, restore_list, Step, run_act, when, stop_when, step_weight, with_some_spot, combined, with_kept, with_taken, some_ints, after_act, conds_hold, after_step, stops, Flow, flow, more, run_steps}
use Rattle.cc_line.specs.OpenStep.{OpenAct, open_set_spot, open_combine, open_load_site, open_keep_site, open_place_to_site, open_site_to_place, open_set_site, open_copy_site, OpenStep, closed_step, open_act, open_when, act_with, step_with, steps_with, ints_in}
use Rattle.cc_line.specs.Item.{Item, step_item, call_item, call_when, fill_item, fill_when, Items, no_more, first, called, filled_steps, run_item, run_items}
use Rattle.cc_unread.specs.Reads.{is_assign}
use Rattle.cc_unread.specs.Sure.{is_set, spot_is_set, and_one, and_spot, combined_sets, act_sets, step_sets, open_act_sets, open_step_sets, open_may_stop, open_steps_sets, item_may_stop, item_sets, items_sets, kept_is_sure, act_is_sure, item_is_sure, are_sure, is_sure}

-- a scratch score has a number
abbrev pub Scored : Text → State → Type 0
Scored h s = (z : ℤ) × (s.scores h ≡ Some z)

-- ---- what is set stays so

holder_stays : (f : Text → Option ℤ) (g h : Text) (y : ℤ) → (z : ℤ) × (f h ≡ Some z) → (z : ℤ) × (with_holder f g y h ≡ Some z)
holder_stays f g h y a = go (bytes_eq g h)
  where
    go : (b : Bool) → (z : ℤ) × ((if b then Some y else f h) ≡ Some z)
    go true = (y, refl)
    go false = a

spot_stays : (h : Text) (x : Spot) (z : ℤ) (s : State) → Scored h s → Scored h (with_spot s x z)
spot_stays h (scratch g) z s a = holder_stays s.scores g h z a
spot_stays h (placed i) z s a = a

some_spot_stays : (h : Text) (x : Spot) (o : Option ℤ) (s : State) → Scored h s → Scored h (with_some_spot s x o)
some_spot_stays h x None s a = a
some_spot_stays h x (Some z) s a = spot_stays h x z s a

combined_stays : (h : Text) (x : Spot) (op : Op) (o : Option ℤ) (s : State) → Scored h s → Scored h (combined s x op o)
combined_stays h x op None s a = a
combined_stays h x op (Some b) s a = some_spot_stays h x (operate op (or_zero (read s x)) b) s a

place_stays : (h : Text) (b : Bool) (i : ℕ) (z : ℤ) (s : State) → Scored h s → Scored h (if b then s else with_place s i z)
place_stays h true i z s a = a
place_stays h false i z s a = a

score_stays : (h : Text) (b : Bool) (i : ℕ) (z : ℤ) (s : State) → Scored h s → Scored h (if b then with_place s i z else s)
score_stays h true i z s a = a
score_stays h false i z s a = a

kept_stays : (h : Text) (i : ℕ) (o : Option ℤ) (s : State) → Scored h s → Scored h (with_kept s i o)
kept_stays h i None s a = place_stays h (nat_lt i score_places) i (pos 0) s a
kept_stays h i (Some z) s a = a

taken_stays : (h : Text) (i : ℕ) (o : Option Tree) (s : State) → Scored h s → Scored h (with_taken s i o)
taken_stays h i None s a = score_stays h (nat_lt i score_places) i (pos 0) s a
taken_stays h i (Some (int z)) s a = a
taken_stays h i (Some (string b)) s a = score_stays h (nat_lt i score_places) i (number_at (Some (string b))) s a
taken_stays h i (Some (list ts)) s a = score_stays h (nat_lt i score_places) i (number_at (Some (list ts))) s a
taken_stays h i (Some (compound fs)) s a = score_stays h (nat_lt i score_places) i (number_at (Some (compound fs))) s a

tree_stays : (h : Text) (p : Site) (o : Option Tree) (s : State) → Scored h s → Scored h (with_tree s p o)
tree_stays h p None s a = a
tree_stays h p (Some t) s a = a

copy_stays : (h : Text) (p : Site) (o : Option Tree) (s : State) → Scored h s → Scored h (with_copy s p o)
copy_stays h p None s a = a
copy_stays h p (Some t) s a = tree_stays h p _ s a

append_stays : (h : Text) (p : Site) (o : Option Tree) (s : State) → Scored h s → Scored h (with_append_copy s p o)
append_stays h p None s a = a
append_stays h p (Some t) s a = tree_stays h p _ s a

list_stays : (h : Text) (o : Option (List ℤ)) (s : State) → Scored h s → Scored h (with_some_list s o)
list_stays h None s a = a
list_stays h (Some zs) s a = a

act_stays : (h : Text) (act : Act) (s : State) → Scored h s → Scored h (after_act act s)
act_stays h (set_spot x z) s a = spot_stays h x z s a
act_stays h (increase x n) s a = spot_stays h x _ s a
act_stays h (decrease x n) s a = spot_stays h x _ s a
act_stays h (combine x op y) s a = combined_stays h x op (read s y) s a
act_stays h (set_place i z) s a = a
act_stays h (copy_place i j) s a = a
act_stays h (load_place g i) s a = holder_stays s.scores g h (place_at s i) a
act_stays h (keep_place i g) s a = kept_stays h i (s.scores g) s a
act_stays h (load_site g p) s a = holder_stays s.scores g h (number_at (selected s p)) a
act_stays h (keep_site p g) s a = tree_stays h p _ s a
act_stays h (place_to_site p i) s a = tree_stays h p _ s a
act_stays h (site_to_place i p) s a = taken_stays h i (selected s p) s a
act_stays h (set_site p t) s a = tree_stays h p _ s a
act_stays h (copy_site p q) s a = copy_stays h p (selected s q) s a
act_stays h (append_value_to p t) s a = tree_stays h p _ s a
act_stays h (append_site p q) s a = append_stays h p (selected s q) s a
act_stays h (erase_site p) s a = tree_stays h p _ s a
act_stays h (open_place i) s a = a
act_stays h (make_list zs) s a = a
act_stays h (save_list p) s a = tree_stays h p _ s a
act_stays h (restore_list p) s a = list_stays h (some_ints (selected s p)) s a

step_stays : (h : Text) (x : Step) (s : State) → Scored h s → Scored h (after_step x s)
step_stays h (run_act act) s a = act_stays h act s a
step_stays h (when cs act) s a = go (conds_hold cs s)
  where
    go : (b : Bool) → Scored h (if b then after_act act s else s)
    go true = act_stays h act s a
    go false = a
step_stays h (stop_when cs) s a = a

steps_stay : (h : Text) (xs : List Step) (s : State) → Scored h s → Scored h (run_steps xs s).state
steps_stay h [] s a = a
steps_stay h (x ∷ xs) s a = go (stops x s) (steps_stay h xs (after_step x s) (step_stays h x s a))
  where
    go : (b : Bool) → Scored h (run_steps xs (after_step x s)).state → Scored h (if b then flow true s (step_weight x) else more (step_weight x) (run_steps xs (after_step x s))).state
    go true c = a
    go false c = c

chosen_stays : (h : Text) (b : Bool) (p : Flow) (s : State) → Scored h p.state → Scored h s → Scored h (if b then called 2 p else flow false s 2).state
chosen_stays h true p s a c = a
chosen_stays h false p s a c = c

mutual
  item_stays : (h : Text) (x : Item) (s : State) → Scored h s → Scored h (run_item x s).state
  item_stays h (step_item x) s a = step_stays h x s a
  item_stays h (call_item f xs) s a = items_stay h xs s a
  item_stays h (call_when cs f xs) s a = chosen_stays h (conds_hold cs s) (run_items xs s) s (items_stay h xs s a) a
  item_stays h (fill_item f p xs) s a = steps_stay h (filled_steps p xs s) s a
  item_stays h (fill_when cs f p xs) s a = chosen_stays h (conds_hold cs s) (run_steps (filled_steps p xs s) s) s (steps_stay h (filled_steps p xs s) s a) a

  items_stay : (h : Text) (xs : Items) (s : State) → Scored h s → Scored h (run_items xs s).state
  items_stay h no_more s a = a
  items_stay h (first x xs) s a = go (run_item x s).stopped (item_stays h x s a) (items_stay h xs (run_item x s).state (item_stays h x s a))
    where
      go : (b : Bool) → Scored h (run_item x s).state → Scored h (run_items xs (run_item x s).state).state → Scored h (if b then run_item x s else more (run_item x s).used (run_items xs (run_item x s).state)).state
      go true c d = c
      go false c d = d

-- ---- those of a list are set

abbrev pub AreScored : List Text → State → Type 0
AreScored set s = (h : Text) → is_set set h ≡ true → Scored h s

pub none_scored : (s : State) → AreScored [] s
none_scored s h e = absurd cc

last_is_set : (set : List Text) (g h : Text) → is_set (set ++ (g ∷ [])) h ≡ (is_set set h || bytes_eq g h)
last_is_set [] g h = go (bytes_eq g h)
  where
    go : (b : Bool) → (b || false) ≡ b
    go true = refl
    go false = refl
last_is_set (k ∷ ks) g h = go (bytes_eq k h) (last_is_set ks g h)
  where
    go : (b : Bool) → is_set (ks ++ (g ∷ [])) h ≡ (is_set ks h || bytes_eq g h) → (b || is_set (ks ++ (g ∷ [])) h) ≡ ((b || is_set ks h) || bytes_eq g h)
    go true e = refl
    go false e = e

either_scored : (set : List Text) (g h : Text) (s : State) → AreScored set s → Scored g s → (is_set set h || bytes_eq g h) ≡ true → Scored h s
either_scored set g h s a b e = go (is_set set h) refl (bytes_eq g h) refl e
  where
    go : (c : Bool) → is_set set h ≡ c → (d : Bool) → bytes_eq g h ≡ d → (c || d) ≡ true → Scored h s
    go true is d same e = a h is
    go false is true same e = subst (λ k. Scored k s) ((bytes_eq-Decides g h).0 same) b
    go false is false same e = absurd cc

more_scored : (set : List Text) (g : Text) (s : State) → AreScored set s → Scored g s → AreScored (and_one set g) s
more_scored set g s a b = go (is_set set g)
  where
    go : (c : Bool) → AreScored (if c then set else set ++ (g ∷ [])) s
    go true = a
    go false = λ h e. either_scored set g h s a b (sym (last_is_set set g h) ∙ e)

own_holder : (f : Text → Option ℤ) (h : Text) (y : ℤ) → (z : ℤ) × (with_holder f h y h ≡ Some z)
own_holder f h y = (y, ap (λ b. if b then Some y else f h) ((bytes_eq-Decides h h).1 refl))

spot_scored : (set : List Text) (x : Spot) (z : ℤ) (s : State) → AreScored set s → AreScored (and_spot set x) (with_spot s x z)
spot_scored set (scratch h) z s a = more_scored set h (with_spot s (scratch h) z) (λ g e. spot_stays g (scratch h) z s (a g e)) (own_holder s.scores h z)
spot_scored set (placed i) z s a = a

spot_read : (set : List Text) (y : Spot) (s : State) → AreScored set s → spot_is_set set y ≡ true → (z : ℤ) × (read s y ≡ Some z)
spot_read set (scratch h) s a e = a h e
spot_read set (placed i) s a e = (place_at s i, refl)

assigned_scored : (set : List Text) (x : Spot) (o : Option ℤ) (s : State) → AreScored set s → (z : ℤ) × (o ≡ Some z) → AreScored (and_spot set x) (combined s x assign o)
assigned_scored set x o s a r = subst (λ p. AreScored (and_spot set x) (combined s x assign p)) (sym r.1) (spot_scored set x r.0 s a)

combined_scored : (set : List Text) (x : Spot) (op : Op) (y : Spot) (s : State) → AreScored set s → AreScored (combined_sets set x op y) (combined s x op (read s y))
combined_scored set x assign y s a = go (spot_is_set set y) refl
  where
    go : (b : Bool) → spot_is_set set y ≡ b → AreScored (if b then and_spot set x else set) (combined s x assign (read s y))
    go true e = assigned_scored set x (read s y) s a (spot_read set y s a e)
    go false e = λ h i. combined_stays h x assign (read s y) s (a h i)
combined_scored set x add y s a = λ h i. combined_stays h x add (read s y) s (a h i)
combined_scored set x subtract y s a = λ h i. combined_stays h x subtract (read s y) s (a h i)
combined_scored set x multiply y s a = λ h i. combined_stays h x multiply (read s y) s (a h i)
combined_scored set x divide y s a = λ h i. combined_stays h x divide (read s y) s (a h i)
combined_scored set x remainder y s a = λ h i. combined_stays h x remainder (read s y) s (a h i)
combined_scored set x lower y s a = λ h i. combined_stays h x lower (read s y) s (a h i)
combined_scored set x raise y s a = λ h i. combined_stays h x raise (read s y) s (a h i)
combined_scored set x swap y s a = λ h i. combined_stays h x swap (read s y) s (a h i)

act_scored : (set : List Text) (act : Act) (s : State) → AreScored set s → AreScored (act_sets set act) (after_act act s)
act_scored set (set_spot x z) s a = spot_scored set x z s a
act_scored set (increase x n) s a = spot_scored set x _ s a
act_scored set (decrease x n) s a = spot_scored set x _ s a
act_scored set (combine x op y) s a = combined_scored set x op y s a
act_scored set (load_place h i) s a = spot_scored set (scratch h) (place_at s i) s a
act_scored set (load_site h p) s a = spot_scored set (scratch h) (number_at (selected s p)) s a
act_scored set (set_place i z) s a = a
act_scored set (copy_place i j) s a = a
act_scored set (keep_place i g) s a = λ h e. act_stays h (keep_place i g) s (a h e)
act_scored set (keep_site p g) s a = λ h e. act_stays h (keep_site p g) s (a h e)
act_scored set (place_to_site p i) s a = λ h e. act_stays h (place_to_site p i) s (a h e)
act_scored set (site_to_place i p) s a = λ h e. act_stays h (site_to_place i p) s (a h e)
act_scored set (set_site p t) s a = λ h e. act_stays h (set_site p t) s (a h e)
act_scored set (copy_site p q) s a = λ h e. act_stays h (copy_site p q) s (a h e)
act_scored set (append_value_to p t) s a = λ h e. act_stays h (append_value_to p t) s (a h e)
act_scored set (append_site p q) s a = λ h e. act_stays h (append_site p q) s (a h e)
act_scored set (erase_site p) s a = λ h e. act_stays h (erase_site p) s (a h e)
act_scored set (open_place i) s a = a
act_scored set (make_list zs) s a = a
act_scored set (save_list p) s a = λ h e. act_stays h (save_list p) s (a h e)
act_scored set (restore_list p) s a = λ h e. act_stays h (restore_list p) s (a h e)

step_scored : (set : List Text) (x : Step) (s : State) → AreScored set s → AreScored (step_sets set x) (after_step x s)
step_scored set (run_act act) s a = act_scored set act s a
step_scored set (when cs act) s a = λ h e. step_stays h (when cs act) s (a h e)
step_scored set (stop_when cs) s a = a

open_act_scored : (set : List Text) (r : Ints) (act : OpenAct) (s : State) → AreScored set s → AreScored (open_act_sets set act) (after_act (act_with r act) s)
open_act_scored set r (open_load_site g p) s a = act_scored set (act_with r (open_load_site g p)) s a
open_act_scored set r (open_set_spot x n) s a = λ h e. act_stays h (act_with r (open_set_spot x n)) s (a h e)
open_act_scored set r (open_combine x op g n) s a = λ h e. act_stays h (act_with r (open_combine x op g n)) s (a h e)
open_act_scored set r (open_keep_site p g) s a = λ h e. act_stays h (act_with r (open_keep_site p g)) s (a h e)
open_act_scored set r (open_place_to_site p i) s a = λ h e. act_stays h (act_with r (open_place_to_site p i)) s (a h e)
open_act_scored set r (open_site_to_place i p) s a = λ h e. act_stays h (act_with r (open_site_to_place i p)) s (a h e)
open_act_scored set r (open_set_site p t) s a = λ h e. act_stays h (act_with r (open_set_site p t)) s (a h e)
open_act_scored set r (open_copy_site p q) s a = λ h e. act_stays h (act_with r (open_copy_site p q)) s (a h e)

open_step_scored : (set : List Text) (r : Ints) (x : OpenStep) (s : State) → AreScored set s → AreScored (open_step_sets set x) (after_step (step_with r x) s)
open_step_scored set r (closed_step x) s a = step_scored set x s a
open_step_scored set r (open_act act) s a = open_act_scored set r act s a
open_step_scored set r (open_when cs act) s a = λ h e. step_stays h (step_with r (open_when cs act)) s (a h e)

never_stops : (r : Ints) (x : OpenStep) (s : State) → open_may_stop x ≡ false → stops (step_with r x) s ≡ false
never_stops r (closed_step (run_act act)) s e = refl
never_stops r (closed_step (when cs act)) s e = refl
never_stops r (closed_step (stop_when cs)) s e = absurd cc
never_stops r (open_act act) s e = refl
never_stops r (open_when cs act) s e = refl

open_steps_scored : (set : List Text) (r : Ints) (xs : List OpenStep) (s : State) → AreScored set s → AreScored (open_steps_sets set xs) (run_steps (steps_with r xs) s).state
open_steps_scored set r [] s a = a
open_steps_scored set r (x ∷ xs) s a = go (open_may_stop x) refl (open_steps_scored (open_step_sets set x) r xs (after_step (step_with r x) s) (open_step_scored set r x s a))
  where
    go : (b : Bool) → open_may_stop x ≡ b → AreScored (open_steps_sets (open_step_sets set x) xs) (run_steps (steps_with r xs) (after_step (step_with r x) s)).state → AreScored (if b then set else open_steps_sets (open_step_sets set x) xs) (run_steps (steps_with r (x ∷ xs)) s).state
    go true e d = λ h i. steps_stay h (steps_with r (x ∷ xs)) s (a h i)
    go false e d =
        subst (λ b. AreScored (open_steps_sets (open_step_sets set x) xs) (if b then flow true s (step_weight (step_with r x)) else more (step_weight (step_with r x)) (run_steps (steps_with r xs) (after_step (step_with r x) s))).state)
        (sym (never_stops r x s e))
        d

leads_on : (x : Item) (s : State) → item_may_stop x ≡ false → (run_item x s).stopped ≡ false
leads_on (step_item (run_act act)) s e = refl
leads_on (step_item (when cs act)) s e = refl
leads_on (step_item (stop_when cs)) s e = absurd cc
leads_on (call_item f xs) s e = refl
leads_on (call_when cs f xs) s e = go (conds_hold cs s)
  where
    go : (b : Bool) → (if b then called 2 (run_items xs s) else flow false s 2).stopped ≡ false
    go true = refl
    go false = refl
leads_on (fill_item f p xs) s e = refl
leads_on (fill_when cs f p xs) s e = go (conds_hold cs s)
  where
    go : (b : Bool) → (if b then called 2 (run_steps (filled_steps p xs s) s) else flow false s 2).stopped ≡ false
    go true = refl
    go false = refl

mutual
  pub item_scored : (set : List Text) (x : Item) (s : State) → AreScored set s → AreScored (item_sets set x) (run_item x s).state
  item_scored set (step_item x) s a = step_scored set x s a
  item_scored set (call_item f xs) s a = items_scored set xs s a
  item_scored set (call_when cs f xs) s a = λ h e. item_stays h (call_when cs f xs) s (a h e)
  item_scored set (fill_item f p xs) s a = open_steps_scored set (ints_in (selected s p)) xs s a
  item_scored set (fill_when cs f p xs) s a = λ h e. item_stays h (fill_when cs f p xs) s (a h e)

  items_scored : (set : List Text) (xs : Items) (s : State) → AreScored set s → AreScored (items_sets set xs) (run_items xs s).state
  items_scored set no_more s a = a
  items_scored set (first x xs) s a = go (item_may_stop x) refl (items_scored (item_sets set x) xs (run_item x s).state (item_scored set x s a))
    where
      go : (b : Bool) → item_may_stop x ≡ b → AreScored (items_sets (item_sets set x) xs) (run_items xs (run_item x s).state).state → AreScored (if b then set else items_sets (item_sets set x) xs) (run_items (first x xs) s).state
      go true e c = λ h i. items_stay h (first x xs) s (a h i)
      go false e c =
          subst (λ b. AreScored (items_sets (item_sets set x) xs) (if b then run_item x s else more (run_item x s).used (run_items xs (run_item x s).state)).state)
          (sym (leads_on x s e))
          c

-- ---- what is kept is set

-- where an act keeps a scratch score to a place that is one, it is set
abbrev pub KeptSure : Spot → Op → Spot → State → Type 0
KeptSure (scratch g) op y s = Unit {0}
KeptSure (placed i) op (placed j) s = Unit {0}
KeptSure (placed i) op (scratch h) s = is_assign op ≡ true → Scored h s

abbrev pub ActSure : Act → State → Type 0
ActSure (combine x op y) s = KeptSure x op y s
ActSure (keep_place i h) s = Scored h s
ActSure _ s = Unit {0}

abbrev pub ItemSure : Item → State → Type 0
ItemSure (step_item (run_act a)) s = ActSure a s
ItemSure _ s = Unit {0}

abbrev pub ItemsSure : Items → State → Type 0
ItemsSure no_more s = Unit {0}
ItemsSure (first x xs) s = ItemSure x s × ((run_item x s).stopped ≡ false → ItemsSure xs (run_item x s).state)

kept_sure : (set : List Text) (x : Spot) (op : Op) (y : Spot) (s : State) → AreScored set s → kept_is_sure set x op y ≡ true → KeptSure x op y s
kept_sure set (scratch g) op y s a e = tt
kept_sure set (placed i) op (placed j) s a e = tt
kept_sure set (placed i) op (scratch h) s a e = λ is. a h (go (is_assign op) is e)
  where
    go : (b : Bool) → b ≡ true → (not b || is_set set h) ≡ true → is_set set h ≡ true
    go true is e = e
    go false is e = absurd cc

act_sure : (set : List Text) (act : Act) (s : State) → AreScored set s → act_is_sure set act ≡ true → ActSure act s
act_sure set (set_spot x z) s a e = tt
act_sure set (increase x n) s a e = tt
act_sure set (decrease x n) s a e = tt
act_sure set (combine x op y) s a e = kept_sure set x op y s a e
act_sure set (set_place i z) s a e = tt
act_sure set (copy_place i j) s a e = tt
act_sure set (load_place h i) s a e = tt
act_sure set (keep_place i h) s a e = a h e
act_sure set (load_site h p) s a e = tt
act_sure set (keep_site p h) s a e = tt
act_sure set (place_to_site p i) s a e = tt
act_sure set (site_to_place i p) s a e = tt
act_sure set (set_site p t) s a e = tt
act_sure set (copy_site p q) s a e = tt
act_sure set (append_value_to p t) s a e = tt
act_sure set (append_site p q) s a e = tt
act_sure set (erase_site p) s a e = tt
act_sure set (open_place i) s a e = tt
act_sure set (make_list zs) s a e = tt
act_sure set (save_list p) s a e = tt
act_sure set (restore_list p) s a e = tt

item_sure : (set : List Text) (x : Item) (s : State) → AreScored set s → item_is_sure set x ≡ true → ItemSure x s
item_sure set (step_item (run_act act)) s a e = act_sure set act s a e
item_sure set (step_item (when cs act)) s a e = tt
item_sure set (step_item (stop_when cs)) s a e = tt
item_sure set (call_item f xs) s a e = tt
item_sure set (call_when cs f xs) s a e = tt
item_sure set (fill_item f p xs) s a e = tt
item_sure set (fill_when cs f p xs) s a e = tt

pub are_kept : (set : List Text) (xs : Items) (s : State) → AreScored set s → are_sure set xs ≡ true → ItemsSure xs s
are_kept set no_more s a e = tt
are_kept set (first x xs) s a e =
    (item_sure set x s a (and_first (item_is_sure set x) _ e), λ h. are_kept (item_sets set x) xs (run_item x s).state (item_scored set x s a) (and_second (item_is_sure set x) _ e))

-- items that are sure keep what is set, whatever stood before
pub sure_kept : (xs : Items) (s : State) → is_sure xs ≡ true → ItemsSure xs s
sure_kept xs s e = are_kept [] xs s (none_scored s) e
