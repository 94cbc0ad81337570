-- Where items have a bound, the next piece stays a cut of the function whose height is at most that.
use Rattle.std.proofs.Common.{◌≡◌, ℕ, ◌≤◌, List, [], ◌∷◌, Option, Some, None, Bool, true, false, refl, sym, ap, ◌∙◌, subst, arith}
use Rattle.std.specs.Prelude.{max, option_map, option_and_then, if◌then◌else◌, ◌&&◌, nat_le, nat_lt, ℤ, pos}
use Rattle.std.specs.Str.{bytes_eq}
use Rattle.mc_nbt.specs.Tree.{Tree, int, string, list, compound, Part, depth}
use Rattle.mc_cmd.specs.World.{operate, or_zero}
use Rattle.mc_cmd.specs.steps.OpenText.{Ints}
use Rattle.cc_line.specs.Sight.{in_rest, same_store}
use Rattle.cc_line.specs.Place.{Spot, scratch, placed, score_places}
use Rattle.cc_line.specs.Key.{key_next, body_piece, id_tree}
use Rattle.cc_line.specs.State.{State, Site, selected, set_under, with_place, with_spot, with_tree, with_set, with_copy, with_append_copy, with_some_list, number_at}
use Rattle.cc_line.specs.Step.{Act, set_spot, increase, decrease, combine, set_place, copy_place, load_place, keep_place, load_site, keep_site, place_to_site, site_to_place, set_site, copy_site, append_value_to, append_site, erase_site, open_place, make_list, save_list, restore_list}
use Rattle.cc_line.specs.Step.{Step, run_act, when, stop_when, with_some_spot, combined, with_kept, with_taken, some_ints, conds_hold, after_act, after_step, stops, Flow, flow, more, run_steps, step_weight}
use Rattle.cc_line.specs.OpenStep.{OpenAct, open_set_spot, open_combine, open_load_site, open_keep_site, open_place_to_site, open_site_to_place, open_set_site, open_copy_site, OpenStep, closed_step, open_act, open_when, act_with, step_with, steps_with, ints_in, site_with}
use Rattle.cc_line.specs.Item.{Item, step_item, call_item, call_when, fill_item, fill_when, Items, no_more, first, called, filled_steps, run_item, run_items}
use Rattle.cc_names.specs.Names.{is_next}
use Rattle.cc_passes.specs.Bound.{greater, height_named, written_bound, next_bound, set_bound, act_bound, step_bound, open_act_bound, open_step_bound, open_steps_bound, item_bound, items_bound, next_behind, exit_bound, ends_bound, stops_bound}
use Rattle.cc_passes.specs.Law.{NamesCut}
use Rattle.cc_passes.proofs.LeafLemmas.{Names, names_cut}

-- ---- bounds

-- there is a bound, and it is at most this
pub record IsWithin (o : Option ℕ) (k : ℕ) : Type 0 where
  pub bound : ℕ
  pub is : o ≡ Some bound
  pub low : bound ≤ k

pub none_within : {A : Type 0} (k : ℕ) → IsWithin None k → A
none_within k w = absurd (let e = w.is in cc)

pub both_within : (a b : Option ℕ) (k : ℕ) → IsWithin (greater a b) k → IsWithin a k × IsWithin b k
both_within None b k w = none_within k w
both_within (Some n) None k w = none_within k w
both_within (Some n) (Some j) k w =
    let e : max n j ≡ w.bound = some_of w.is in
    let l = w.low in
    (record { bound = n; is = refl; low = omega arith }, record { bound = j; is = refl; low = omega arith })
  where
    or_none : Option ℕ → ℕ
    or_none None = 0
    or_none (Some x) = x

    some_of : {x y : ℕ} → Some x ≡ Some y → x ≡ y
    some_of e = ap or_none e

module _ (func : ℕ) (heights : List ℕ) where
  -- ---- acts

  -- the next piece is a cut of the function whose height is at most this
  pub record NextIsWithin (k : ℕ) (s : State) : Type 0 where
    pub height : ℕ
    pub next : NamesCut func heights height s
    pub low : height ≤ k

  pub next_kept : (k : ℕ) (s t : State) → t.keys in_rest key_next ≡ s.keys in_rest key_next → NextIsWithin k s → NextIsWithin k t
  next_kept k s t e w = record { height = w.height; next = record { index = w.next.index; named = e ∙ w.next.named; is_height = w.next.is_height }; low = w.low }

  spot_keys : (s : State) (x : Spot) (z : ℤ) → (with_spot s x z).keys ≡ s.keys
  spot_keys s (scratch h) z = refl
  spot_keys s (placed i) z = refl

  some_spot_keys : (s : State) (x : Spot) (o : Option ℤ) → (with_some_spot s x o).keys ≡ s.keys
  some_spot_keys s x None = refl
  some_spot_keys s x (Some z) = spot_keys s x z

  kept_keys : (s : State) (i : ℕ) (o : Option ℤ) → (with_kept s i o).keys ≡ s.keys
  kept_keys s i (Some z) = refl
  kept_keys s i None = by (nat_lt i score_places)
    where
      by : (b : Bool) → (if b then s else with_place s i (pos 0)).keys ≡ s.keys
      by true = refl
      by false = refl

  maybe_keys : (s : State) (i : ℕ) (z : ℤ) (b : Bool) → (if b then with_place s i z else s).keys ≡ s.keys
  maybe_keys s i z true = refl
  maybe_keys s i z false = refl

  taken_keys : (s : State) (i : ℕ) (o : Option Tree) → (with_taken s i o).keys ≡ s.keys
  taken_keys s i None = maybe_keys s i (pos 0) (nat_lt i score_places)
  taken_keys s i (Some (int z)) = refl
  taken_keys s i (Some (string b)) = maybe_keys s i (number_at (Some (string b))) (nat_lt i score_places)
  taken_keys s i (Some (list ts)) = maybe_keys s i (number_at (Some (list ts))) (nat_lt i score_places)
  taken_keys s i (Some (compound fs)) = maybe_keys s i (number_at (Some (compound fs))) (nat_lt i score_places)

  list_keys : (s : State) (o : Option (List ℤ)) → (with_some_list s o).keys ≡ s.keys
  list_keys s None = refl
  list_keys s (Some zs) = refl

  keys_kept : (k : ℕ) (s t : State) → t.keys ≡ s.keys → NextIsWithin k s → NextIsWithin k t
  keys_kept k s t e w = next_kept k s t (ap (λ f. f in_rest key_next) e) w

  -- under another key
  tree_kept : (k : ℕ) (s : State) (p : Site) (o : Option Tree) → is_next p.store p.name ≡ false → NextIsWithin k s → NextIsWithin k (with_tree s p o)
  tree_kept k s p None e w = w
  tree_kept k s p (Some t) e w = next_kept k s (with_tree s p (Some t)) (ap (λ b. if b then Some t else s.keys in_rest key_next) e) w

  copy_kept : (k : ℕ) (s : State) (p : Site) (o : Option Tree) → is_next p.store p.name ≡ false → NextIsWithin k s → NextIsWithin k (with_copy s p o)
  copy_kept k s p None e w = w
  copy_kept k s p (Some t) e w = tree_kept k s p _ e w

  append_kept : (k : ℕ) (s : State) (p : Site) (o : Option Tree) → is_next p.store p.name ≡ false → NextIsWithin k s → NextIsWithin k (with_append_copy s p o)
  append_kept k s p None e w = w
  append_kept k s p (Some t) e w = tree_kept k s p _ e w

  -- where a write has a bound it is under another key
  other_key : (p : Site) (k : ℕ) → IsWithin (written_bound p.store p.name) k → is_next p.store p.name ≡ false
  other_key p k w = by (is_next p.store p.name) w
    where
      by : (b : Bool) → IsWithin (if b then None else Some 0) k → b ≡ false
      by true w = none_within k w
      by false w = refl

  -- a tree under the key itself names a cut
  name_written : (k : ℕ) (s : State) (p : Site) (t : Tree) → is_next p.store p.name ≡ true → IsWithin (height_named func heights t) k → NextIsWithin k (with_tree s p (Some t))
  name_written k s p t e w =
      let n : Names func heights t w.bound = names_cut func heights t w.bound w.is in
      record {
        height = w.bound;
        next = record { index = n.index; named = ap (λ b. if b then Some t else s.keys in_rest key_next) e ∙ ap Some n.is; is_height = n.is_height };
        low = w.low;
      }

  set_names : (k : ℕ) (s : State) (p : Site) (t : Tree) → IsWithin (set_bound func heights p t) k → NextIsWithin k s → NextIsWithin k (with_set s p t)
  set_names k s p t b w = by (is_next p.store p.name) refl b
    where
      whole : is_next p.store p.name ≡ true → (ps : List Part) → IsWithin (next_bound func heights ps t) k → NextIsWithin k (with_tree s p (option_and_then (λ u. if nat_le (depth u) 63 then Some u else None) (set_under (s.keys p.store p.name) ps t)))
      whole e (q ∷ qs) b = none_within k b
      whole e [] b = fits (nat_le (depth t) 63)
        where
          fits : (c : Bool) → NextIsWithin k (with_tree s p (if c then Some t else None))
          fits true = name_written k s p t e b
          fits false = w

      by : (c : Bool) → is_next p.store p.name ≡ c → IsWithin (if c then next_bound func heights p.parts t else Some 0) k → NextIsWithin k (with_set s p t)
      by true e b = whole e p.parts b
      by false e b = tree_kept k s p _ e w

  pub act_names : (a : Act) (k : ℕ) (s : State) → IsWithin (act_bound func heights a) k → NextIsWithin k s → NextIsWithin k (after_act a s)
  act_names (set_spot x z) k s b w = keys_kept k s _ (spot_keys s x z) w
  act_names (increase x n) k s b w = keys_kept k s _ (spot_keys s x _) w
  act_names (decrease x n) k s b w = keys_kept k s _ (spot_keys s x _) w
  act_names (combine x op y) k s b w = by_source _
    where
      by_source : (o : Option ℤ) → NextIsWithin k (combined s x op o)
      by_source None = w
      by_source (Some z) = keys_kept k s _ (some_spot_keys s x _) w
  act_names (set_place i z) k s b w = keys_kept k s _ refl w
  act_names (copy_place i j) k s b w = keys_kept k s _ refl w
  act_names (load_place h i) k s b w = keys_kept k s _ refl w
  act_names (keep_place i h) k s b w = keys_kept k s _ (kept_keys s i (s.scores h)) w
  act_names (load_site h p) k s b w = keys_kept k s _ refl w
  act_names (keep_site p h) k s b w = tree_kept k s p _ (other_key p k b) w
  act_names (place_to_site p i) k s b w = tree_kept k s p _ (other_key p k b) w
  act_names (site_to_place i p) k s b w = keys_kept k s _ (taken_keys s i (selected s p)) w
  act_names (set_site p t) k s b w = set_names k s p t b w
  act_names (copy_site p q) k s b w = copy_kept k s p (selected s q) (other_key p k b) w
  act_names (append_value_to p t) k s b w = tree_kept k s p _ (other_key p k b) w
  act_names (append_site p q) k s b w = append_kept k s p (selected s q) (other_key p k b) w
  act_names (erase_site p) k s b w = tree_kept k s p _ (other_key p k b) w
  act_names (open_place i) k s b w = keys_kept k s _ refl w
  act_names (make_list zs) k s b w = keys_kept k s _ refl w
  act_names (save_list p) k s b w = tree_kept k s p _ (other_key p k b) w
  act_names (restore_list p) k s b w = keys_kept k s _ (list_keys s (some_ints (selected s p))) w

  -- ---- steps

  pub step_names : (x : Step) (k : ℕ) (s : State) → IsWithin (step_bound func heights x) k → NextIsWithin k s → NextIsWithin k (after_step x s)
  step_names (run_act a) k s b w = act_names a k s b w
  step_names (when cs a) k s b w = by (conds_hold cs s)
    where
      by : (c : Bool) → NextIsWithin k (if c then after_act a s else s)
      by true = act_names a k s b w
      by false = w
  step_names (stop_when cs) k s b w = w

  -- a macro line has the bound of what it is filled to
  elsewhere : (p : Site) (t : Tree) (k : ℕ) → IsWithin (written_bound p.store p.name) k → IsWithin (set_bound func heights p t) k
  elsewhere p t k w = subst (λ (c : Bool). IsWithin (if c then next_bound func heights p.parts t else Some 0) k) (sym (other_key p k w)) (subst (λ (c : Bool). IsWithin (if c then None else Some 0) k) (other_key p k w) w)

  act_filled : (r : Ints) (a : OpenAct) (k : ℕ) → IsWithin (open_act_bound a) k → IsWithin (act_bound func heights (act_with r a)) k
  act_filled r (open_set_spot x n) k w = w
  act_filled r (open_combine x op h n) k w = w
  act_filled r (open_load_site h p) k w = w
  act_filled r (open_keep_site p h) k w = w
  act_filled r (open_place_to_site p i) k w = w
  act_filled r (open_site_to_place i p) k w = w
  act_filled r (open_set_site p t) k w = elsewhere (site_with r p) t k w
  act_filled r (open_copy_site p q) k w = w

  step_filled : (r : Ints) (x : OpenStep) (k : ℕ) → IsWithin (open_step_bound func heights x) k → IsWithin (step_bound func heights (step_with r x)) k
  step_filled r (closed_step x) k w = w
  step_filled r (open_act a) k w = act_filled r a k w
  step_filled r (open_when cs a) k w = act_filled r a k w

  pub steps_name : (r : Ints) (xs : List OpenStep) (k : ℕ) (s : State) → IsWithin (open_steps_bound func heights xs) k → NextIsWithin k s → NextIsWithin k (run_steps (steps_with r xs) s).state
  steps_name r [] k s b w = w
  steps_name r (x ∷ xs) k s b w =
      let (here, there) = both_within (open_step_bound func heights x) (open_steps_bound func heights xs) k b in
      let y : Step = step_with r x in
      by y (steps_name r xs k (after_step y s) there (step_names y k s (step_filled r x k here) w)) (stops y s)
    where
      by : (y : Step) → NextIsWithin k (run_steps (steps_with r xs) (after_step y s)).state → (c : Bool) → NextIsWithin k (if c then flow true s (step_weight y) else more (step_weight y) (run_steps (steps_with r xs) (after_step y s))).state
      by y deeper true = w
      by y deeper false = deeper

  -- ---- items

  mutual
    pub item_names : (x : Item) (k : ℕ) (s : State) → IsWithin (item_bound func heights x) k → NextIsWithin k s → NextIsWithin k (run_item x s).state
    item_names (step_item x) k s b w = step_names x k s b w
    item_names (call_item f xs) k s b w = items_name xs k s b w
    item_names (call_when cs f xs) k s b w = by (conds_hold cs s) (items_name xs k s b w)
      where
        by : (c : Bool) → NextIsWithin k (run_items xs s).state → NextIsWithin k (if c then called 2 (run_items xs s) else flow false s 2).state
        by true deeper = deeper
        by false deeper = w
    item_names (fill_item f p xs) k s b w = steps_name (ints_in (selected s p)) xs k s b w
    item_names (fill_when cs f p xs) k s b w = by (conds_hold cs s) (steps_name (ints_in (selected s p)) xs k s b w)
      where
        by : (c : Bool) → NextIsWithin k (run_steps (filled_steps p xs s) s).state → NextIsWithin k (if c then called 2 (run_steps (filled_steps p xs s) s) else flow false s 2).state
        by true deeper = deeper
        by false deeper = w

    pub items_name : (xs : Items) (k : ℕ) (s : State) → IsWithin (items_bound func heights xs) k → NextIsWithin k s → NextIsWithin k (run_items xs s).state
    items_name no_more k s b w = w
    items_name (first x xs) k s b w =
        let (here, there) = both_within (item_bound func heights x) (items_bound func heights xs) k b in
        let behind : NextIsWithin k (run_item x s).state = item_names x k s here w in
        by (run_item x s) behind (items_name xs k (run_item x s).state there behind)
      where
        by : (g : Flow) → NextIsWithin k g.state → NextIsWithin k (run_items xs g.state).state → NextIsWithin k (if g.stopped then g else more g.used (run_items xs g.state)).state
        by g behind deeper = choose g.stopped
          where
            choose : (c : Bool) → NextIsWithin k (if c then g else more g.used (run_items xs g.state)).state
            choose true = behind
            choose false = deeper

  -- ---- who is next

  -- the next piece is within each bound that this one may be
  abbrev pub Ahead : Option ℕ → State → Type 0
  Ahead o s = (k : ℕ) → IsWithin o k → NextIsWithin k s

  -- the name of a cut isn't deep
  name_deep : (t : Tree) (k : ℕ) → IsWithin (height_named func heights t) k → nat_le (depth t) 63 ≡ true
  name_deep t k w =
      let n : Names func heights t w.bound = names_cut func heights t w.bound w.is in
      ap (λ (u : Tree). nat_le (depth u) 63) n.is

  -- whatever was next before
  surely_names : (k : ℕ) (s : State) (p : Site) (t : Tree) → is_next p.store p.name ≡ true → IsWithin (set_bound func heights p t) k → NextIsWithin k (with_set s p t)
  surely_names k s p t e b = whole p.parts (subst (λ (c : Bool). IsWithin (if c then next_bound func heights p.parts t else Some 0) k) e b)
    where
      whole : (ps : List Part) → IsWithin (next_bound func heights ps t) k → NextIsWithin k (with_tree s p (option_and_then (λ u. if nat_le (depth u) 63 then Some u else None) (set_under (s.keys p.store p.name) ps t)))
      whole (q ∷ qs) b = none_within k b
      whole [] b = subst (λ (c : Bool). NextIsWithin k (with_tree s p (if c then Some t else None))) (sym (name_deep t k b)) (name_written k s p t e b)

  -- behind an item
  goes_behind : (x : Item) (now : Option ℕ) (s : State) → Ahead now s → Ahead (greater now (item_bound func heights x)) (run_item x s).state
  goes_behind x now s a k w =
      let (was, there) = both_within now (item_bound func heights x) k w in
      item_names x k s there (a k was)

  set_behind : (p : Site) (t : Tree) (now : Option ℕ) (s : State) → Ahead now s → Ahead (next_behind func heights now (step_item (run_act (set_site p t)))) (with_set s p t)
  set_behind p t now s a = by (is_next p.store p.name) refl
    where
      by : (c : Bool) → is_next p.store p.name ≡ c → Ahead (if c then set_bound func heights p t else greater now (set_bound func heights p t)) (with_set s p t)
      by true e = λ k w. surely_names k s p t e w
      by false e = goes_behind (step_item (run_act (set_site p t))) now s a

  pub ahead_behind : (x : Item) (now : Option ℕ) (s : State) → Ahead now s → Ahead (next_behind func heights now x) (run_item x s).state
  ahead_behind (step_item (run_act (set_site p t))) now s a = set_behind p t now s a
  ahead_behind (step_item (run_act (set_spot y z))) now s a = goes_behind (step_item (run_act (set_spot y z))) now s a
  ahead_behind (step_item (run_act (increase y n))) now s a = goes_behind (step_item (run_act (increase y n))) now s a
  ahead_behind (step_item (run_act (decrease y n))) now s a = goes_behind (step_item (run_act (decrease y n))) now s a
  ahead_behind (step_item (run_act (combine y op v))) now s a = goes_behind (step_item (run_act (combine y op v))) now s a
  ahead_behind (step_item (run_act (set_place i z))) now s a = goes_behind (step_item (run_act (set_place i z))) now s a
  ahead_behind (step_item (run_act (copy_place i j))) now s a = goes_behind (step_item (run_act (copy_place i j))) now s a
  ahead_behind (step_item (run_act (load_place h i))) now s a = goes_behind (step_item (run_act (load_place h i))) now s a
  ahead_behind (step_item (run_act (keep_place i h))) now s a = goes_behind (step_item (run_act (keep_place i h))) now s a
  ahead_behind (step_item (run_act (load_site h p))) now s a = goes_behind (step_item (run_act (load_site h p))) now s a
  ahead_behind (step_item (run_act (keep_site p h))) now s a = goes_behind (step_item (run_act (keep_site p h))) now s a
  ahead_behind (step_item (run_act (place_to_site p i))) now s a = goes_behind (step_item (run_act (place_to_site p i))) now s a
  ahead_behind (step_item (run_act (site_to_place i p))) now s a = goes_behind (step_item (run_act (site_to_place i p))) now s a
  ahead_behind (step_item (run_act (copy_site p q))) now s a = goes_behind (step_item (run_act (copy_site p q))) now s a
  ahead_behind (step_item (run_act (append_value_to p t))) now s a = goes_behind (step_item (run_act (append_value_to p t))) now s a
  ahead_behind (step_item (run_act (append_site p q))) now s a = goes_behind (step_item (run_act (append_site p q))) now s a
  ahead_behind (step_item (run_act (erase_site p))) now s a = goes_behind (step_item (run_act (erase_site p))) now s a
  ahead_behind (step_item (run_act (open_place i))) now s a = goes_behind (step_item (run_act (open_place i))) now s a
  ahead_behind (step_item (run_act (make_list zs))) now s a = goes_behind (step_item (run_act (make_list zs))) now s a
  ahead_behind (step_item (run_act (save_list p))) now s a = goes_behind (step_item (run_act (save_list p))) now s a
  ahead_behind (step_item (run_act (restore_list p))) now s a = goes_behind (step_item (run_act (restore_list p))) now s a
  ahead_behind (step_item (when cs b)) now s a = goes_behind (step_item (when cs b)) now s a
  ahead_behind (step_item (stop_when cs)) now s a = goes_behind (step_item (stop_when cs)) now s a
  ahead_behind (call_item f xs) now s a = goes_behind (call_item f xs) now s a
  ahead_behind (call_when cs f xs) now s a = goes_behind (call_when cs f xs) now s a
  ahead_behind (fill_item f p xs) now s a = goes_behind (fill_item f p xs) now s a
  ahead_behind (fill_when cs f p xs) now s a = goes_behind (fill_when cs f p xs) now s a

  -- an item that ends its list is a way out, and changes nothing
  ahead_there : (x : Item) (now : Option ℕ) (s : State) → (run_item x s).stopped ≡ true → Ahead now s → Ahead (exit_bound now x) (run_item x s).state
  ahead_there (step_item (run_act b)) now s e a = absurd cc
  ahead_there (step_item (when cs b)) now s e a = absurd cc
  ahead_there (step_item (stop_when cs)) now s e a = a
  ahead_there (call_item f xs) now s e a = absurd cc
  ahead_there (call_when cs f xs) now s e a = by (conds_hold cs s) e
    where
      by : {A : Type 0} (c : Bool) → (if c then called 2 (run_items xs s) else flow false s 2).stopped ≡ true → A
      by true h = absurd cc
      by false h = absurd cc
  ahead_there (fill_item f p xs) now s e a = absurd cc
  ahead_there (fill_when cs f p xs) now s e a = by (conds_hold cs s) e
    where
      by : {A : Type 0} (c : Bool) → (if c then called 2 (run_steps (filled_steps p xs s) s) else flow false s 2).stopped ≡ true → A
      by true h = absurd cc
      by false h = absurd cc

  -- the bound of the way out that items take
  abbrev pub taken_bound : Option ℕ → Items → Bool → Option ℕ
  taken_bound now xs stopped = if stopped then stops_bound func heights now xs else ends_bound func heights now xs

  pub ahead_of : (xs : Items) (now : Option ℕ) (s : State) → Ahead now s → Ahead (taken_bound now xs (run_items xs s).stopped) (run_items xs s).state
  ahead_of no_more now s a = a
  ahead_of (first x xs) now s a = by (run_item x s) refl (ahead_there x now s) (ahead_of xs (next_behind func heights now x) (run_item x s).state (ahead_behind x now s a))
    where
      rest : Option ℕ
      rest = next_behind func heights now x

      by : (g : Flow) → run_item x s ≡ g → (g.stopped ≡ true → Ahead now s → Ahead (exit_bound now x) g.state) → Ahead (taken_bound rest xs (run_items xs g.state).stopped) (run_items xs g.state).state
          → Ahead (taken_bound now (first x xs) (if g.stopped then g else more g.used (run_items xs g.state)).stopped) (if g.stopped then g else more g.used (run_items xs g.state)).state
      by g is there behind = choose g.stopped refl
        where
          deeper : (c : Bool) → Ahead (taken_bound rest xs c) (run_items xs g.state).state → Ahead (taken_bound now (first x xs) c) (run_items xs g.state).state
          deeper true b = λ k w. b k (both_within (exit_bound now x) (stops_bound func heights rest xs) k w).1
          deeper false b = b

          choose : (c : Bool) → g.stopped ≡ c → Ahead (taken_bound now (first x xs) (if c then g else more g.used (run_items xs g.state)).stopped) (if c then g else more g.used (run_items xs g.state)).state
          choose true e = subst (λ (c : Bool). Ahead (taken_bound now (first x xs) c) g.state) (sym e) (λ k w. there e a k (both_within (exit_bound now x) (stops_bound func heights rest xs) k w).0)
          choose false e = deeper (run_items xs g.state).stopped behind
