-- No items take away a place that is a score.
use Rattle.std.proofs.Common.{◌≡◌, ℕ, ◌+◌, ◌≤◌, List, [], ◌∷◌, ◌++◌, length, Option, Some, None, Bool, true, false, arith, length-append}
use Rattle.std.specs.Prelude.{ℤ, pos, take, slice_set, if◌then◌else◌, nat_lt, option_and_then}
use Rattle.std.proofs.lemmas.List.{length-set, length-take-le}
use Rattle.mc_nbt.specs.Tree.{Tree, int, string, list, compound}
use Rattle.mc_cmd.specs.Command.{Op}
use Rattle.mc_cmd.specs.World.{operate, or_zero}
use Rattle.cc_line.specs.Place.{score_places, Spot, scratch, placed}
use Rattle.cc_line.specs.State.{State, Site, place_at, with_place, with_spot, read, with_tree, with_copy, with_append_copy, with_list, with_some_list, selected, set_under, append_under, within_key, number_at}
use Rattle.cc_line.specs.Step.{Act, set_spot, increase, decrease, combine, set_place, copy_place, load_place, keep_place, load_site, keep_site, place_to_site, site_to_place, set_site, copy_site, append_value_to, append_site, erase_site, open_place, make_list, save_list, restore_list, Step, run_act, when, stop_when, conds_hold, with_some_spot, combined, with_kept, with_taken, some_ints, after_act, after_step, stops, Flow, flow, more, run_steps}
use Rattle.cc_line.specs.Item.{Item, step_item, call_item, call_when, fill_item, fill_when, Items, no_more, first, called, filled_steps, run_item, run_items}

-- the places that are scores are there
abbrev pub IsWide : State → Type 0
IsWide s = score_places ≤ length s.places

tree_wide : (s : State) (p : Site) (o : Option Tree) → IsWide s → IsWide (with_tree s p o)
tree_wide s p None h = h
tree_wide s p (Some t) h = h

copy_wide : (s : State) (p : Site) (o : Option Tree) → IsWide s → IsWide (with_copy s p o)
copy_wide s p None h = h
copy_wide s p (Some t) h = tree_wide s p (option_and_then within_key (set_under (s.keys p.store p.name) p.parts t)) h

append_copy_wide : (s : State) (p : Site) (o : Option Tree) → IsWide s → IsWide (with_append_copy s p o)
append_copy_wide s p None h = h
append_copy_wide s p (Some t) h = tree_wide s p (option_and_then within_key (append_under (s.keys p.store p.name) p.parts t)) h

place_wide : (s : State) (i : ℕ) (z : ℤ) → IsWide s → IsWide (with_place s i z)
place_wide s i z h = let e : length (slice_set s.places i z) ≡ length s.places = length-set s.places i z in omega arith

spot_wide : (s : State) (x : Spot) (z : ℤ) → IsWide s → IsWide (with_spot s x z)
spot_wide s (scratch g) z h = h
spot_wide s (placed i) z h = place_wide s i z h

some_spot_wide : (s : State) (x : Spot) (o : Option ℤ) → IsWide s → IsWide (with_some_spot s x o)
some_spot_wide s x None h = h
some_spot_wide s x (Some z) h = spot_wide s x z h

combined_wide : (s : State) (x : Spot) (op : Op) (o : Option ℤ) → IsWide s → IsWide (combined s x op o)
combined_wide s x op None h = h
combined_wide s x op (Some z) h = some_spot_wide s x (operate op (or_zero (read s x)) z) h

either_wide : (b : Bool) (s t : State) → IsWide s → IsWide t → IsWide (if b then s else t)
either_wide true s t h g = h
either_wide false s t h g = g

kept_wide : (s : State) (i : ℕ) (o : Option ℤ) → IsWide s → IsWide (with_kept s i o)
kept_wide s i None h = either_wide (nat_lt i score_places) s (with_place s i (pos 0)) h (place_wide s i (pos 0) h)
kept_wide s i (Some z) h = place_wide s i z h

taken_wide : (s : State) (i : ℕ) (o : Option Tree) → IsWide s → IsWide (with_taken s i o)
taken_wide s i None h = either_wide (nat_lt i score_places) (with_place s i (pos 0)) s (place_wide s i (pos 0) h) h
taken_wide s i (Some (int z)) h = place_wide s i z h
taken_wide s i (Some (string b)) h = either_wide (nat_lt i score_places) (with_place s i (number_at (Some (string b)))) s (place_wide s i (number_at (Some (string b))) h) h
taken_wide s i (Some (list ts)) h = either_wide (nat_lt i score_places) (with_place s i (number_at (Some (list ts)))) s (place_wide s i (number_at (Some (list ts))) h) h
taken_wide s i (Some (compound fs)) h = either_wide (nat_lt i score_places) (with_place s i (number_at (Some (compound fs)))) s (place_wide s i (number_at (Some (compound fs))) h) h

list_wide : (s : State) (zs : List ℤ) → IsWide s → IsWide (with_list s zs)
list_wide s zs h =
    let a : length (take score_places s.places ++ zs) ≡ length (take score_places s.places) + length zs = length-append (take score_places s.places) zs in
    let b : length (take score_places s.places) ≡ score_places = length-take-le score_places s.places h in
    omega arith

some_list_wide : (s : State) (o : Option (List ℤ)) → IsWide s → IsWide (with_some_list s o)
some_list_wide s None h = h
some_list_wide s (Some zs) h = list_wide s zs h

act_wide : (a : Act) (s : State) → IsWide s → IsWide (after_act a s)
act_wide (set_spot x z) s h = spot_wide s x z h
act_wide (increase x n) s h = spot_wide s x _ h
act_wide (decrease x n) s h = spot_wide s x _ h
act_wide (combine x op y) s h = combined_wide s x op (read s y) h
act_wide (set_place i z) s h = place_wide s i z h
act_wide (copy_place i j) s h = place_wide s i (place_at s j) h
act_wide (load_place g i) s h = h
act_wide (keep_place i g) s h = kept_wide s i (s.scores g) h
act_wide (load_site g p) s h = h
act_wide (keep_site p g) s h = tree_wide s p _ h
act_wide (place_to_site p i) s h = tree_wide s p _ h
act_wide (site_to_place i p) s h = taken_wide s i (selected s p) h
act_wide (set_site p t) s h = tree_wide s p _ h
act_wide (copy_site p q) s h = copy_wide s p (selected s q) h
act_wide (append_value_to p t) s h = tree_wide s p _ h
act_wide (append_site p q) s h = append_copy_wide s p (selected s q) h
act_wide (erase_site p) s h = tree_wide s p _ h
act_wide (open_place i) s h = let e : length (s.places ++ (pos 0 ∷ [])) ≡ length s.places + 1 = length-append s.places (pos 0 ∷ []) in omega arith
act_wide (make_list zs) s h = list_wide s zs h
act_wide (save_list p) s h = tree_wide s p _ h
act_wide (restore_list p) s h = some_list_wide s (some_ints (selected s p)) h

step_wide : (x : Step) (s : State) → IsWide s → IsWide (after_step x s)
step_wide (run_act a) s h = act_wide a s h
step_wide (when cs a) s h = either_wide (conds_hold cs s) (after_act a s) s (act_wide a s h) h
step_wide (stop_when cs) s h = h

either_flow : (b : Bool) (f g : Flow) → IsWide f.state → IsWide g.state → IsWide (if b then f else g).state
either_flow true f g h k = h
either_flow false f g h k = k

steps_wide : (xs : List Step) (s : State) → IsWide s → IsWide (run_steps xs s).state
steps_wide [] s h = h
steps_wide (x ∷ xs) s h = either_flow (stops x s) (flow true s _) (more _ (run_steps xs (after_step x s))) h (steps_wide xs (after_step x s) (step_wide x s h))

mutual
  pub item_wide : (x : Item) (s : State) → IsWide s → IsWide (run_item x s).state
  item_wide (step_item x) s h = step_wide x s h
  item_wide (call_item f xs) s h = items_wide xs s h
  item_wide (call_when cs f xs) s h = either_flow (conds_hold cs s) (called 2 (run_items xs s)) (flow false s 2) (items_wide xs s h) h
  item_wide (fill_item f p xs) s h = steps_wide (filled_steps p xs s) s h
  item_wide (fill_when cs f p xs) s h = either_flow (conds_hold cs s) (called 2 (run_steps (filled_steps p xs s) s)) (flow false s 2) (steps_wide (filled_steps p xs s) s h) h

  pub items_wide : (xs : Items) (s : State) → IsWide s → IsWide (run_items xs s).state
  items_wide no_more s h = h
  items_wide (first x xs) s h = either_flow (run_item x s).stopped (run_item x s) (more _ (run_items xs (run_item x s).state)) (item_wide x s h) (items_wide xs (run_item x s).state (item_wide x s h))
