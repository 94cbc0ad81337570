-- Steps and items that name only places that stand find them.
use Rattle.std.proofs.Common.{◌≡◌, ℕ, ◌<◌, ◌≤◌, List, [], ◌∷◌, length, Option, Some, None, Bool, true, false, refl, ap, ◌∙◌, arith}
use Rattle.std.specs.Prelude.{ℤ, pos, if◌then◌else◌, nat_lt}
use Rattle.std.specs.List.{list_all}
use Rattle.std.proofs.Math.ListN.{length-set}
use Rattle.std.proofs.lemmas.Bool.{ltb-true}
use Rattle.mc_nbt.specs.Tree.{Tree, int, string, list, compound}
use Rattle.mc_nbt.proofs.TestLemmas.{and_first, and_second}
use Rattle.mc_cmd.specs.Command.{Op}
use Rattle.mc_cmd.specs.World.{operate, or_zero}
use Rattle.cc_line.specs.Place.{score_places, Spot, scratch, placed}
use Rattle.cc_line.specs.State.{State, read, with_place, Site, with_tree, with_copy, with_append_copy}
use Rattle.cc_line.specs.Step.{Act, set_spot, increase, decrease, combine, set_place, copy_place, load_place, keep_place, load_site, keep_site, place_to_site, site_to_place, set_site, copy_site, append_value_to, append_site, erase_site, open_place, make_list, save_list, restore_list, Check, in_range, compare, stands, Cond, holds, fails, Step, run_act, when, stop_when, with_some_spot, combined, with_kept, with_taken, after_act, conds_hold, after_step, Flow, flow, more, SpotReady, ActReady, CheckReady, CondReady, CondsReady, StepReady, Ready}
use Rattle.cc_line.specs.Item.{Item, step_item, call_item, call_when, fill_item, fill_when, Items, no_more, first, called, run_item, run_items, ItemReady, ItemsReady}
use Rattle.cc_line.specs.Within.{spot_within, act_within, check_within, cond_within, step_within, steps_within, item_within, items_within}
use Rattle.cc_line.proofs.CoreLemmas.{spot_long}

-- ---- the places stay as many

some_long : (s : State) (x : Spot) (o : Option ℤ) → length (with_some_spot s x o).places ≡ length s.places
some_long s x None = refl
some_long s x (Some z) = spot_long s x z

combined_long : (s : State) (x : Spot) (op : Op) (o : Option ℤ) → length (combined s x op o).places ≡ length s.places
combined_long s x op None = refl
combined_long s x op (Some b) = some_long s x (operate op (or_zero (read s x)) b)

either_long : (s t u : State) (b : Bool) → length t.places ≡ length s.places → length u.places ≡ length s.places → length (if b then t else u).places ≡ length s.places
either_long s t u true e f = e
either_long s t u false e f = f

kept_long : (s : State) (i : ℕ) (o : Option ℤ) → length (with_kept s i o).places ≡ length s.places
kept_long s i None = either_long s s (with_place s i (pos 0)) (nat_lt i score_places) refl (length-set s.places i (pos 0))
kept_long s i (Some z) = length-set s.places i z

taken_long : (s : State) (i : ℕ) (o : Option Tree) → length (with_taken s i o).places ≡ length s.places
taken_long s i None = either_long s (with_place s i (pos 0)) s (nat_lt i score_places) (length-set s.places i (pos 0)) refl
taken_long s i (Some (int z)) = length-set s.places i z
taken_long s i (Some (string b)) = either_long s (with_place s i _) s (nat_lt i score_places) (length-set s.places i _) refl
taken_long s i (Some (list ts)) = either_long s (with_place s i _) s (nat_lt i score_places) (length-set s.places i _) refl
taken_long s i (Some (compound fs)) = either_long s (with_place s i _) s (nat_lt i score_places) (length-set s.places i _) refl

tree_places : (s : State) (p : Site) (o : Option Tree) → (with_tree s p o).places ≡ s.places
tree_places s p None = refl
tree_places s p (Some t) = refl

copy_places : (s : State) (p : Site) (o : Option Tree) → (with_copy s p o).places ≡ s.places
copy_places s p None = refl
copy_places s p (Some t) = tree_places s p _

append_places : (s : State) (p : Site) (o : Option Tree) → (with_append_copy s p o).places ≡ s.places
append_places s p None = refl
append_places s p (Some t) = tree_places s p _

module _ (n : ℕ) where
  pub act_long : (a : Act) (s : State) → act_within n a ≡ true → length (after_act a s).places ≡ length s.places
  act_long (set_spot x z) s k = spot_long s x z
  act_long (increase x m) s k = spot_long s x _
  act_long (decrease x m) s k = spot_long s x _
  act_long (combine x op y) s k = combined_long s x op (read s y)
  act_long (set_place i z) s k = length-set s.places i z
  act_long (copy_place i j) s k = length-set s.places i _
  act_long (load_place h i) s k = refl
  act_long (keep_place i h) s k = kept_long s i (s.scores h)
  act_long (load_site h p) s k = refl
  act_long (keep_site p h) s k = ap length (tree_places s p _)
  act_long (place_to_site p i) s k = ap length (tree_places s p _)
  act_long (site_to_place i p) s k = taken_long s i _
  act_long (set_site p t) s k = ap length (tree_places s p _)
  act_long (copy_site p q) s k = ap length (copy_places s p _)
  act_long (append_value_to p t) s k = ap length (tree_places s p _)
  act_long (append_site p q) s k = ap length (append_places s p _)
  act_long (erase_site p) s k = ap length (tree_places s p _)
  act_long (open_place i) s k = absurd cc
  act_long (make_list zs) s k = absurd cc
  act_long (save_list p) s k = ap length (tree_places s p _)
  act_long (restore_list p) s k = absurd cc

  step_long : (x : Step) (s : State) → step_within n x ≡ true → length (after_step x s).places ≡ length s.places
  step_long (run_act a) s k = act_long a s k
  step_long (when cs a) s k = either_long s (after_act a s) s (conds_hold cs s) (act_long a s (and_second (list_all (cond_within n) cs) _ k)) refl
  step_long (stop_when cs) s k = refl

  -- ---- and are found

  below : (i : ℕ) (s : State) → n ≤ length s.places → nat_lt i n ≡ true → i < length s.places
  below i s l k = let e = ltb-true i n k in omega arith

  spot_found : (x : Spot) (s : State) → n ≤ length s.places → spot_within n x ≡ true → SpotReady x s
  spot_found (scratch h) s l k = tt
  spot_found (placed i) s l k = below i s l k

  act_found : (a : Act) (s : State) → n ≤ length s.places → act_within n a ≡ true → ActReady a s
  act_found (set_spot x z) s l k = spot_found x s l k
  act_found (increase x m) s l k = spot_found x s l k
  act_found (decrease x m) s l k = spot_found x s l k
  act_found (combine x op y) s l k = (spot_found x s l (and_first _ _ k), spot_found y s l (and_second (spot_within n x) _ k))
  act_found (set_place i z) s l k = below i s l k
  act_found (copy_place i j) s l k = (below i s l (and_first _ _ k), below j s l (and_second (nat_lt i n) _ k))
  act_found (load_place h i) s l k = below i s l k
  act_found (keep_place i h) s l k = below i s l k
  act_found (load_site h p) s l k = tt
  act_found (keep_site p h) s l k = tt
  act_found (place_to_site p i) s l k = below i s l k
  act_found (site_to_place i p) s l k = below i s l k
  act_found (set_site p t) s l k = tt
  act_found (copy_site p q) s l k = tt
  act_found (append_value_to p t) s l k = tt
  act_found (append_site p q) s l k = tt
  act_found (erase_site p) s l k = tt
  act_found (open_place i) s l k = absurd cc
  act_found (make_list zs) s l k = absurd cc
  act_found (save_list p) s l k = tt
  act_found (restore_list p) s l k = absurd cc

  check_found : (c : Check) (s : State) → n ≤ length s.places → check_within n c ≡ true → CheckReady c s
  check_found (in_range x r) s l k = spot_found x s l k
  check_found (compare x c y) s l k = (spot_found x s l (and_first _ _ k), spot_found y s l (and_second (spot_within n x) _ k))
  check_found (stands p) s l k = tt

  pub conds_found : (cs : List Cond) (s : State) → n ≤ length s.places → list_all (cond_within n) cs ≡ true → CondsReady cs s
  conds_found [] s l k = tt
  conds_found (c ∷ cs) s l k = (one c (and_first _ _ k), conds_found cs s l (and_second (cond_within n c) _ k))
    where
      one : (c : Cond) → cond_within n c ≡ true → CondReady c s
      one (holds c) k = check_found c s l k
      one (fails c) k = check_found c s l k

  step_found : (x : Step) (s : State) → n ≤ length s.places → step_within n x ≡ true → StepReady x s
  step_found (run_act a) s l k = act_found a s l k
  step_found (when cs a) s l k = (conds_found cs s l (and_first _ _ k), λ e. act_found a s l (and_second (list_all (cond_within n) cs) _ k))
  step_found (stop_when cs) s l k = conds_found cs s l k

  pub steps_found : (xs : List Step) (s : State) → n ≤ length s.places → steps_within n xs ≡ true → Ready xs s
  steps_found [] s l k = tt
  steps_found (x ∷ xs) s l k =
      let e = step_long x s (and_first _ _ k) in
      (step_found x s l (and_first _ _ k), λ q. steps_found xs (after_step x s) (let m : n ≤ length (after_step x s).places = omega arith in m) (and_second (step_within n x) _ k))

  -- ---- the same of items

  flow_long : (s : State) (b : Bool) (f g : Flow) → length f.state.places ≡ length s.places → length g.state.places ≡ length s.places → (let h : Flow = (if b then f else g) in length h.state.places) ≡ length s.places
  flow_long s true f g e d = e
  flow_long s false f g e d = d

  mutual
    item_long : (x : Item) (s : State) → item_within n x ≡ true → length (run_item x s).state.places ≡ length s.places
    item_long (step_item x) s k = step_long x s k
    item_long (call_item f xs) s k = items_long xs s k
    item_long (call_when cs f xs) s k = flow_long s (conds_hold cs s) (called 2 (run_items xs s)) (flow false s 2) (items_long xs s (and_second (list_all (cond_within n) cs) _ k)) refl
    item_long (fill_item f p xs) s k = absurd cc
    item_long (fill_when cs f p xs) s k = absurd cc

    pub items_long : (xs : Items) (s : State) → items_within n xs ≡ true → length (run_items xs s).state.places ≡ length s.places
    items_long no_more s k = refl
    items_long (first x xs) s k =
        let e = item_long x s (and_first _ _ k) in
        flow_long s (run_item x s).stopped (run_item x s) (more (run_item x s).used (run_items xs (run_item x s).state)) e (items_long xs (run_item x s).state (and_second (item_within n x) _ k) ∙ e)

  mutual
    item_found : (x : Item) (s : State) → n ≤ length s.places → item_within n x ≡ true → ItemReady x s
    item_found (step_item x) s l k = step_found x s l k
    item_found (call_item f xs) s l k = items_found xs s l k
    item_found (call_when cs f xs) s l k = (conds_found cs s l (and_first _ _ k), λ e. items_found xs s l (and_second (list_all (cond_within n) cs) _ k))
    item_found (fill_item f p xs) s l k = absurd cc
    item_found (fill_when cs f p xs) s l k = absurd cc

    pub items_found : (xs : Items) (s : State) → n ≤ length s.places → items_within n xs ≡ true → ItemsReady xs s
    items_found no_more s l k = tt
    items_found (first x xs) s l k =
        let e = item_long x s (and_first _ _ k) in
        (item_found x s l (and_first _ _ k), λ q. items_found xs (run_item x s).state (let m : n ≤ length (run_item x s).state.places = omega arith in m) (and_second (item_within n x) _ k))
