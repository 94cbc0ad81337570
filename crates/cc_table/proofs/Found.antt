-- A number is looked up in a table: what tells the index, and the element at it.
use Rattle.std.proofs.Common.{◌≡◌, ℕ, zero, suc, ◌-◌, ◌<◌, ◌≤◌, min, List, [], ◌∷◌, ◌++◌, length, map, Option, Some, None, Bool, true, false, refl, sym, ap, ◌∙◌, subst, arith, ⊎_elim, zero-le}
use Rattle.std.specs.Prelude.{ℤ, pos, negsuc, ◌&&◌, if◌then◌else◌, not, nat_le, codes, slice_get, option_map, option_and_then}
use Rattle.std.specs.Int.{w32, cast_unsigned}
use Rattle.std.proofs.lemmas.Bool.{cases_lt, le-leb, lt-leb, lt-ltb}
use Rattle.std.proofs.lemmas.List.{length-map}
use Rattle.std.proofs.lemmas.Option.{slice_get_within, slice_get-map}
use Rattle.mc_nbt.specs.Tree.{Tree, int, compound, compound_of, no_fields, items, items_depth, depth, item_at, index_of, place, select}
use Rattle.mc_nbt.specs.Word.{is_int}
use Rattle.mc_nbt.proofs.TreeLemmas.{of_items-items}
use Rattle.mc_cmd.specs.Form.{Text}
use Rattle.mc_cmd.specs.Command.{between}
use Rattle.mc_cmd.specs.World.{is_in, some_is_in, or_zero}
use Rattle.cc_line.specs.Sight.{in_rest}
use Rattle.cc_line.specs.Key.{key_table, key_choice}
use Rattle.cc_line.specs.State.{State, Site, at_key, ints, selected, number_at, set_under, with_score, with_set}
use Rattle.cc_line.specs.Step.{Flow, flow, step_weight, run_steps, StepReady}
use Rattle.cc_line.specs.OpenStep.{an_int, HasSomeInts, ints_in, steps_with}
use Rattle.cc_line.specs.Item.{step_item, fill_item, Items, no_more, first, steps_items, called, run_item}
use Rattle.cc_line.specs.View.{table_step, look_up_steps}
use Rattle.cc_line.proofs.ActLemmas.{depth_ints}
use Rattle.cc_line.proofs.RunLemmas.{Leads, leads_none, leads_first, leads_join}
use Rattle.cc_line.proofs.SettleLemmas.{score_kept}
use Rattle.cc_line.proofs.Words.{by_sign, by_word}
use Rattle.cc_line.proofs.KeyLemmas.{Written, set_writes}
use Rattle.cc_table.specs.Look.{element_or, choice_site, index_site, clamp_step, index_steps, element_steps, find_items, look_items, look_by}
use Rattle.cc_table.specs.Law.{Nearby, Finds, Looks, NumbersAreFound}
use Rattle.cc_table.proofs.Nearby.{near_then, near_score, near_table, near_choice}

-- ---- the index

-- the index, as an unsigned number, or that of the last element where the table ends before it
abbrev pub least : ℕ → ℤ → ℕ
least n a = min (cast_unsigned w32 a) n

chosen : (zs : List ℤ) (z : ℤ) (i : ℕ) → slice_get (zs ++ (z ∷ [])) (min i (length zs)) ≡ Some (element_or zs z i)
chosen [] z i = let e : min i 0 ≡ 0 = omega arith in ap (slice_get (z ∷ [])) e
chosen (x ∷ zs) z zero = let e : min 0 (suc (length zs)) ≡ 0 = omega arith in ap (slice_get (x ∷ (zs ++ (z ∷ [])))) e
chosen (x ∷ zs) z (suc i) =
    let e : min (suc i) (suc (length zs)) ≡ suc (min i (length zs)) = omega arith in
    ap (slice_get (x ∷ (zs ++ (z ∷ [])))) e ∙ chosen zs z i

-- what the clamp leaves of a number, by whether it is in the range
abbrev clamped : ℕ → State → Bool → State
clamped j s b = if not b && true then with_score s (codes "#a") (pos (suc j)) else s

abbrev Clamps : ℕ → ℕ → ℤ → Type 0
Clamps j m a = (s : State) → s.scores (codes "#a") ≡ Some a → clamped j s (is_in (between (pos 0) (pos j)) a) ≡ with_score s (codes "#a") (pos (min m (suc j)))

clamps : (j : ℕ) → suc j < 2147483648 → (a : ℤ) → is_int a ≡ true → Clamps j (cast_unsigned w32 a) a
clamps j l = by_word (Clamps j) (by_sign (Clamps j) low high)
  where
    low : (m : ℕ) → m < 2147483648 → Clamps j m (pos m)
    low m h s e =
        ⊎_elim
        (λ g.
        let x : min m (suc j) ≡ suc j = omega arith in
        ap (λ b. clamped j s (b && nat_le m j)) (le-leb 0 m zero-le) ∙ ap (clamped j s) (lt-leb m j g) ∙ ap (λ k. with_score s (codes "#a") (pos k)) (sym x))
        (λ g.
        let x : m ≡ min m (suc j) = omega arith in
        ap (λ b. clamped j s (b && nat_le m j)) (le-leb 0 m zero-le) ∙ ap (clamped j s) (le-leb m j g) ∙ sym (score_kept s (codes "#a") (pos m) e) ∙ ap (λ k. with_score s (codes "#a") (pos k)) x)
        (cases_lt j m)

    high : (k : ℕ) → k < 2147483648 → Clamps j (4294967295 - k) (negsuc k)
    high k h s e = let x : suc j ≡ min (4294967295 - k) (suc j) = omega arith in ap (λ n. with_score s (codes "#a") (pos n)) x

abbrev lowered : ℕ → ℤ → State → State
lowered n a s = with_score s (codes "#a") (pos (least n a))

clamp_runs : (n : ℕ) (a : ℤ) (s : State) → n < 2147483648 → is_int a ≡ true → s.scores (codes "#a") ≡ Some a → run_item (step_item (clamp_step n)) s ≡ flow false (lowered n a s) (step_weight (clamp_step n))
clamp_runs zero a s l i e = let x : 0 ≡ min (cast_unsigned w32 a) 0 = omega arith in ap (λ k. flow false (with_score s (codes "#a") (pos k)) (step_weight (clamp_step 0))) x
clamp_runs (suc j) a s l i e =
    ap (λ t. flow false t (step_weight (clamp_step (suc j)))) (ap (λ o. clamped j s (some_is_in (between (pos 0) (pos j)) o)) e ∙ clamps j l a i s e)

clamp_ready : (n : ℕ) (s : State) → StepReady (clamp_step n) s
clamp_ready zero s = tt
clamp_ready (suc j) s = ((tt, tt), λ e. tt)

-- the compound that tells it
abbrev pub telling : ℕ → Tree
telling k = compound_of ((codes "a0", int (pos k)) ∷ [])

-- a state in which it is told
abbrev pub Tells : ℕ → State → Type 0
Tells k s = s.keys in_rest key_choice ≡ Some (telling k)

abbrev cleared : State → State
cleared s = with_set s choice_site (compound no_fields)

abbrev pub told : ℕ → ℤ → State → State
told n a s = with_set (cleared (lowered n a s)) index_site (int (or_zero ((cleared (lowered n a s)).scores (codes "#a"))))

module _ (n : ℕ) (a : ℤ) (s : State) where
  clears : Written in_rest key_choice (compound no_fields) (lowered n a s) (cleared (lowered n a s))
  clears = set_writes (lowered n a s) choice_site (compound no_fields) (compound no_fields) refl (omega arith)

  keeps : Written in_rest key_choice (telling (least n a)) (cleared (lowered n a s)) (told n a s)
  keeps =
      set_writes (cleared (lowered n a s)) index_site (int (or_zero ((cleared (lowered n a s)).scores (codes "#a")))) (telling (least n a))
      (ap (λ o. set_under o index_site.parts (int (or_zero ((cleared (lowered n a s)).scores (codes "#a"))))) clears.there
      ∙ ap (λ f. Some (compound_of ((codes "a0", int (or_zero (f (codes "#a")))) ∷ []))) clears.scores)
      (omega arith)

  pub told_near : Nearby s (told n a s)
  told_near =
      near_then s (lowered n a s) (told n a s) (near_score s (codes "#a") (pos (least n a)) refl)
      (near_then (lowered n a s) (cleared (lowered n a s)) (told n a s) (near_choice (compound no_fields) (lowered n a s) (cleared (lowered n a s)) clears) (near_choice (telling (least n a)) (cleared (lowered n a s)) (told n a s) keeps))

  pub tells : Tells (least n a) (told n a s)
  tells = keeps.there

  pub index_leads : n < 2147483648 → is_int a ≡ true → s.scores (codes "#a") ≡ Some a → Leads (steps_items (index_steps n)) s (told n a s)
  index_leads l i e =
      leads_first (step_item (clamp_step n)) s _ (lowered n a s) (told n a s) (step_weight (clamp_step n)) (clamp_ready n s) (clamp_runs n a s l i e)
      (leads_first _ (lowered n a s) _ (cleared (lowered n a s)) (told n a s) _ tt refl
      (leads_first _ (cleared (lowered n a s)) no_more (told n a s) (told n a s) _ tt refl (leads_none (told n a s))))

-- ---- the element

depth_low : (zs : List ℤ) → depth (ints zs) ≤ 63
depth_low zs = below (items_depth (items (map int zs))) (depth_ints zs)
  where
    below : (k : ℕ) → k ≤ 1 → suc k ≤ 63
    below k h = omega arith

-- an int of a list of ints
int_selected : (zs : List ℤ) (k : ℕ) (v : ℤ) → slice_get zs k ≡ Some v → select (ints zs) (place (pos k) ∷ []) ≡ Some (int v)
int_selected zs k v e =
    let l : k < length zs = slice_get_within zs k v e in
    let g : List Tree → Option ℕ → Option Tree = λ ts o. option_and_then (λ u. select u []) (option_and_then (slice_get ts) o) in
    ap (λ ts. option_and_then (λ u. select u []) (item_at ts (pos k))) (of_items-items (map int zs))
    ∙ ap (λ n. g (map int zs) (index_of n (pos k))) (length-map zs int)
    ∙ ap (λ b. g (map int zs) (if b then Some k else None)) (lt-ltb k (length zs) l)
    ∙ ap (option_and_then (λ u. select u [])) (slice_get-map int zs k ∙ ap (option_map int) e)

abbrev table_site : Site
table_site = at_key in_rest key_table

abbrev place_site : ℤ → Site
place_site x = record { store = in_rest; name = key_table; parts = place x ∷ [] }

abbrev laid : List ℤ → State → State
laid zs s = with_set s table_site (ints zs)

abbrev pub found : List ℤ → ℤ → State → State
found zs v s = with_score (laid zs s) (codes "#c") v

module _ (zs : List ℤ) (s : State) where
  lays : Written in_rest key_table (ints zs) s (laid zs s)
  lays = set_writes s table_site (ints zs) (ints zs) refl (depth_low zs)

  laid_tells : (k : ℕ) → Tells k s → Tells k (laid zs s)
  laid_tells k e = lays.others in_rest key_choice refl ∙ e

  pub found_near : (v : ℤ) → Nearby s (found zs v s)
  found_near v = near_then s (laid zs s) (found zs v s) (near_table (ints zs) s (laid zs s) lays) (near_score (laid zs s) (codes "#c") v refl)

  pub found_tells : (v : ℤ) (k : ℕ) → Tells k s → Tells k (found zs v s)
  found_tells v k e = laid_tells k e

  module _ (k : ℕ) (v : ℤ) (l : k < 2147483648) (t : Tells k s) (g : slice_get zs k ≡ Some v) where
    -- what the helper's lines load
    element_found : number_at (selected (laid zs s) (place_site (pos k))) ≡ v
    element_found = ap (λ o. number_at (option_and_then (λ u. select u (place (pos k) ∷ [])) o)) lays.there ∙ ap number_at (int_selected zs k v g)

    told_int : (o : Option Tree) → o ≡ Some (telling k) → HasSomeInts (option_and_then (λ u. select u []) o) (an_int (codes "a0") ∷ [])
    told_int o e = subst (λ p. HasSomeInts (option_and_then (λ u. select u []) p) (an_int (codes "a0") ∷ [])) (sym e) (pos k, refl, lt-ltb k 2147483648 l, tt)

    -- the table in the lines, the element in a helper's
    pub finds_leads : Leads (find_items zs) s (found zs v s)
    finds_leads =
        let u : State = laid zs s in
        let run : Option Tree → Flow = λ o. called 1 (run_steps (steps_with (ints_in (option_and_then (λ c. select c []) o)) element_steps) u) in
        leads_first (step_item (table_step zs)) s _ u (found zs v s) _ tt refl
        (leads_first (fill_item (codes "h_cc_look") choice_site element_steps) u no_more (found zs v s) (found zs v s) _
        (told_int (u.keys in_rest key_choice) (laid_tells k t), (tt, λ e. tt))
        (ap run (laid_tells k t) ∙ ap (λ x. flow false (with_score u (codes "#c") x) 3) element_found)
        (leads_none (found zs v s)))

    -- both in a helper's
    pub fill_leads : (f : Text) → Leads (first (fill_item f choice_site (look_up_steps zs element_steps)) no_more) s (found zs v s)
    fill_leads f =
        let u : State = laid zs s in
        let run : Option Tree → Flow = λ o. called 1 (run_steps (steps_with (ints_in (option_and_then (λ c. select c []) o)) (look_up_steps zs element_steps)) s) in
        leads_first (fill_item f choice_site (look_up_steps zs element_steps)) s no_more (found zs v s) (found zs v s) _
        (told_int (s.keys in_rest key_choice) t, (tt, λ e. (tt, λ e. tt)))
        (ap run t ∙ ap (λ x. flow false (with_score u (codes "#c") x) 4) element_found)
        (leads_none (found zs v s))

-- ---- a number looked up

-- items that lead on, as the law says it
abbrev pub finds_so : (xs : Items) (s t : State) (z : ℤ) → Leads xs s t → t.scores (codes "#c") ≡ Some z → Nearby s t → Finds xs s z
finds_so xs s t z l e n = record { ready = l.ready; state = t; used = l.used; ends = l.ends; found = e; near = n }

least_low : (n : ℕ) (a : ℤ) → n < 2147483648 → least n a < 2147483648
least_low n a l = omega arith

module _ (zs : List ℤ) (z a : ℤ) (s : State) where
  abbrev chosen_element : ℤ
  chosen_element = element_or zs z (cast_unsigned w32 a)

  -- the state in which the index is told, and that in which the element is found
  abbrev index_told : State
  index_told = told (length zs) a s

  abbrev pub looked : State
  looked = found (zs ++ (z ∷ [])) chosen_element index_told

  pub looked_near : Nearby s looked
  looked_near = near_then s index_told looked (told_near (length zs) a s) (found_near (zs ++ (z ∷ [])) index_told chosen_element)

  looked_tells : Tells (least (length zs) a) looked
  looked_tells = found_tells (zs ++ (z ∷ [])) index_told chosen_element (least (length zs) a) (tells (length zs) a s)

module _ (zs : List ℤ) (z a : ℤ) (s : State) (l : length zs < 2147483648) (i : is_int a ≡ true) (e : s.scores (codes "#a") ≡ Some a) where
  look_leads : Leads (look_items zs z) s (looked zs z a s)
  look_leads =
      leads_join (steps_items (index_steps (length zs))) (find_items (zs ++ (z ∷ []))) s (told (length zs) a s) (looked zs z a s)
      (index_leads (length zs) a s l i e)
      (finds_leads (zs ++ (z ∷ [])) (told (length zs) a s) (least (length zs) a) (chosen_element zs z a s) (least_low (length zs) a l) (tells (length zs) a s) (chosen zs z (cast_unsigned w32 a)))

  pub look_by_leads : (f : Text) → Leads (look_by f zs z) s (looked zs z a s)
  look_by_leads f =
      leads_join (steps_items (index_steps (length zs))) (first (fill_item f choice_site (look_up_steps (zs ++ (z ∷ [])) element_steps)) no_more) s (told (length zs) a s) (looked zs z a s)
      (index_leads (length zs) a s l i e)
      (fill_leads (zs ++ (z ∷ [])) (told (length zs) a s) (least (length zs) a) (chosen_element zs z a s) (least_low (length zs) a l) (tells (length zs) a s) (chosen zs z (cast_unsigned w32 a)) f)

  -- in one more table
  found_again : (ys : List ℤ) (y : ℤ) (t : State) → length ys ≡ length zs → t.keys in_rest key_choice ≡ (looked zs z a s).keys in_rest key_choice
      → Finds (find_items (ys ++ (y ∷ []))) t (element_or ys y (cast_unsigned w32 a))
  found_again ys y t same k =
      let v : ℤ = element_or ys y (cast_unsigned w32 a) in
      let c : slice_get (ys ++ (y ∷ [])) (least (length zs) a) ≡ Some v = ap (λ n. slice_get (ys ++ (y ∷ [])) (least n a)) (sym same) ∙ chosen ys y (cast_unsigned w32 a) in
      finds_so (find_items (ys ++ (y ∷ []))) t (found (ys ++ (y ∷ [])) v t) v
      (finds_leads (ys ++ (y ∷ [])) t (least (length zs) a) v (least_low (length zs) a l) (k ∙ looked_tells zs z a s) c) refl (found_near (ys ++ (y ∷ [])) t v)

  looks : Looks zs z a s
  looks = record { finds = finds_so (look_items zs z) s (looked zs z a s) (chosen_element zs z a s) look_leads refl (looked_near zs z a s); again = found_again }

pub numbers_are_found : NumbersAreFound
numbers_are_found zs z a s l e i = looks zs z a s l i e
