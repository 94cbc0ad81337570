-- What the command of an act writes is what the act does to a state.
use Rattle.std.proofs.Common.{◌≡◌, ℕ, zero, suc, ◌+◌, ◌<◌, ◌≤◌, List, [], ◌∷◌, length, Option, Some, None, Bool, true, false, refl, sym, ap, ◌∙◌, subst, arith, ◌++◌, take, drop, ◌⊎◌, inl, inr, ◌-◌, ◌^◌, length-append}
use Rattle.std.specs.Prelude.{ℤ, pos, ◌+ℤ◌, ◌-ℤ◌, not, ◌&&◌, if◌then◌else◌, map, option_map, option_and_then, slice_get, slice_set, slice_index_or, nat_lt, nat_eq, max, is_some}
use Rattle.std.specs.Str.{bytes_eq}
use Rattle.std.proofs.lemmas.Bool.{le-leb, lt-ltb, ltb-true}
use Rattle.std.proofs.lemmas.Slice.Eq.{bytes_eq-Decides}
use Rattle.mc_nbt.proofs.TestLemmas.{and_first, and_second}
use Rattle.mc_nbt.specs.Tree.{Tree, int, string, list, compound, items, list_of, Part, key, place, select, set, set_at, put_in, index_of, item_at, is_of_kind, depth, items_depth, child, kind, exchange, append, remove}
use Rattle.mc_nbt.proofs.TreeLemmas.{of_items-items}
use Rattle.mc_cmd.specs.Form.{Text}
use Rattle.mc_cmd.specs.Command.{Op, assign, add, subtract, multiply, divide, remainder, lower, raise, swap, score_get, data_get, store_score, store_data, Sub, Simple, score_set, score_op, set_from}
use Rattle.mc_cmd.specs.World.{World, with_score as with_world_score, tree_in, stored, effect, store_all, is_direct, all_go_on, goes_on, operated, scored, got, number_of, operate, or_zero, wrapped, leaves, fails as fails_in, some_is_in, with_source, both_compare}
use Rattle.cc_line.specs.Sight.{Store, in_rest, same_store, with_key, with_holder, Shows}
use Rattle.cc_line.specs.Place.{score_places, place_name, is_scratch, shown, in_score, in_list, home, Spot, scratch, placed, spot_name}
use Rattle.cc_line.specs.Key.{key_frame, key_list}
use Rattle.cc_line.specs.State.{State, ints, frame_tree, seen, is_frame, slot, frame_path, place_at, with_place, with_score, read, with_spot, Site, site_path, selected, number_at, set_under, append_under, remove_under, within_key, with_tree, with_set, with_append, with_copy, with_append_copy, with_erased, tree_ints, with_list, with_some_list}
use Rattle.cc_line.specs.Step.{Act, set_spot, increase, decrease, combine, set_place, copy_place, load_place, keep_place, load_site, keep_site, place_to_site, site_to_place, set_site, copy_site, append_value_to, append_site, erase_site, open_place, make_list, save_list, restore_list, Check, in_range, compare, stands, Cond, holds, fails, Said, says, storing, rest_id, site_id, set_home, load_home, keep_home, copy_home, home_to_site, site_to_home, act_said, cond_sub, cond_subs, with_some_spot, combined, with_kept, with_taken, some_ints, after_act, check_holds, cond_holds, conds_hold, SpotReady, ActReady, CheckReady, CondReady, CondsReady}
use Rattle.cc_line.specs.Fit.{place_fits, scratch_fits, spot_fits, site_fits, is_swap, has_parts, act_fits, check_fits, cond_fits}
use Rattle.mc_nbt.specs.Path.{is_path}
use Rattle.std.specs.List.{list_all}
use Rattle.cc_line.proofs.SightLemmas.{Written, written_none, shows_as, store_same, score_written, key_set, key_append, key_erase, key_selects, after_key}
use Rattle.cc_line.proofs.PlaceLemmas.{shown_scratch, shown_at, shown_put, shown_keep, shown_more, take_set_in, drop_set_in, take_set_out, drop_set_out, take_get, drop_get, take_length, take_most, drop_length, take_all, drop_all, take_append, drop_append, take_full, home_case}

-- ---- the frame's tree

get_int : (zs : List ℤ) (i : ℕ) → i < length zs → slice_get (map int zs) i ≡ Some (int (slice_index_or zs i (pos 0)))
get_int [] i h = absurd (omega arith)
get_int (z ∷ zs) zero h = refl
get_int (z ∷ zs) (suc i) h = get_int zs i (omega arith)

set_int : (zs : List ℤ) (i : ℕ) (z : ℤ) → slice_set (map int zs) i (int z) ≡ map int (slice_set zs i z)
set_int [] i z = refl
set_int (y ∷ zs) zero z = refl
set_int (y ∷ zs) (suc i) z = ap (λ l. int y ∷ l) (set_int zs i z)

length_ints : (zs : List ℤ) → length (map int zs) ≡ length zs
length_ints [] = refl
length_ints (z ∷ zs) = ap suc (length_ints zs)

index_is : (zs : List ℤ) (i : ℕ) → i < length zs → index_of (length (map int zs)) (pos i) ≡ Some i
index_is zs i h = ap (λ n. if nat_lt i n then Some i else None) (length_ints zs) ∙ ap (λ b. if b then Some i else None) (lt-ltb i (length zs) h)

int_at : (zs : List ℤ) (i : ℕ) → i < length zs → item_at (map int zs) (pos i) ≡ Some (int (slice_index_or zs i (pos 0)))
int_at zs i h = ap (option_and_then (slice_get (map int zs))) (index_is zs i h) ∙ get_int zs i h

pub ints_child : (zs : List ℤ) (i : ℕ) → i < length zs → child (ints zs) (place (pos i)) ≡ Some (int (slice_index_or zs i (pos 0)))
ints_child zs i h = ap (λ l. item_at l (pos i)) (of_items-items (map int zs)) ∙ int_at zs i h

-- an element of a list of ints is set to an int, and to nothing else
put_cases : (zs : List ℤ) (i : ℕ) (t : Tree) → i < length zs → set_at (place (pos i)) [] t (ints zs) ≡ (if nat_eq 0 (kind t) then option_map (λ k. list_of (slice_set (map int zs) k t)) (index_of (length (map int zs)) (pos i)) else None)
put_cases zs i t h =
    ap (λ l. put_in l (pos i) t) (of_items-items (map int zs))
    ∙ ap (λ o. if is_of_kind o t then option_map (λ k. list_of (slice_set (map int zs) k t)) (index_of (length (map int zs)) (pos i)) else None) (int_at zs i h)

pub ints_set : (zs : List ℤ) (i : ℕ) (z : ℤ) → i < length zs → set_at (place (pos i)) [] (int z) (ints zs) ≡ Some (ints (slice_set zs i z))
ints_set zs i z h =
    put_cases zs i (int z) h
    ∙ ap (option_map (λ k. list_of (slice_set (map int zs) k (int z)))) (index_is zs i h)
    ∙ ap (λ l. Some (list_of l)) (set_int zs i z)

ints_refuse : (zs : List ℤ) (i : ℕ) (t : Tree) → i < length zs → nat_eq 0 (kind t) ≡ false → set_at (place (pos i)) [] t (ints zs) ≡ None
ints_refuse zs i t h k = put_cases zs i t h ∙ ap (λ b. if b then option_map (λ k. list_of (slice_set (map int zs) k t)) (index_of (length (map int zs)) (pos i)) else None) k

pub frame_set : (zs : List ℤ) (i : ℕ) (z : ℤ) → i < length zs → set_under (Some (frame_tree zs)) (key key_list ∷ place (pos i) ∷ []) (int z) ≡ Some (frame_tree (slice_set zs i z))
frame_set zs i z h = ap (option_and_then (exchange (frame_tree zs) (key key_list))) (ints_set zs i z h)

frame_refuses : (zs : List ℤ) (i : ℕ) (t : Tree) → i < length zs → nat_eq 0 (kind t) ≡ false → set_under (Some (frame_tree zs)) (key key_list ∷ place (pos i) ∷ []) t ≡ None
frame_refuses zs i t h k = ap (option_and_then (exchange (frame_tree zs) (key key_list))) (ints_refuse zs i t h k)

pub frame_get : (zs : List ℤ) (i : ℕ) → i < length zs → select (frame_tree zs) (key key_list ∷ place (pos i) ∷ []) ≡ Some (int (slice_index_or zs i (pos 0)))
frame_get zs i h = ap (option_and_then (λ u. select u [])) (ints_child zs i h)

pub depth_ints : (zs : List ℤ) → items_depth (items (map int zs)) ≤ 1
depth_ints [] = omega arith
depth_ints (z ∷ zs) = let h : items_depth (items (map int zs)) ≤ 1 = depth_ints zs in below (items_depth (items (map int zs))) h
  where
    below : (n : ℕ) → n ≤ 1 → max 1 n ≤ 1
    below n h = omega arith

pub frame_low : (zs : List ℤ) → depth (frame_tree zs) ≤ 63
frame_low zs = below (items_depth (items (map int zs))) (depth_ints zs)
  where
    below : (a : ℕ) → a ≤ 1 → suc (max (suc a) 0) ≤ 63
    below a f = omega arith

pub within_is : (t : Tree) → depth t ≤ 63 → within_key t ≡ Some t
within_is t d = ap (λ b. if b then Some t else None) (le-leb (depth t) 63 d)

pub ints_are : (zs : List ℤ) → tree_ints (ints zs) ≡ Some zs
ints_are [] = refl
ints_are (z ∷ zs) = ap (option_map (λ ys. z ∷ ys)) (ints_are zs)

-- ---- which spots and paths a line may speak of

abbrev pub SpotWorks : Spot → State → Type 0
SpotWorks (scratch h) s = is_scratch h ≡ true
SpotWorks (placed i) s = (i < score_places) × (i < length s.places)

pub spot_works : (x : Spot) (s : State) → spot_fits x ≡ true → SpotReady x s → SpotWorks x s
spot_works (scratch h) s f r = and_first (is_scratch h) _ f
spot_works (placed i) s f r = (ltb-true i score_places f, r)

pub apart_from_frame : (p : Site) → site_fits p ≡ true → is_frame p.store p.name ≡ false
apart_from_frame p f = turned (is_frame p.store p.name) (and_second (is_path (site_path p)) _ f)
  where
    turned : (b : Bool) → not b ≡ true → b ≡ false
    turned true e = absurd cc
    turned false e = refl

pub few_shown : (zs : List ℤ) → 0 + length (take score_places zs) ≤ 2 ^ 31
few_shown zs = let x = take_most score_places zs in omega arith

abbrev At : ℕ → Type 0
At i = ((i < score_places) × (home i ≡ in_score i)) ⊎ ((score_places ≤ i) × (home i ≡ in_list (i - score_places)))

module _ (ns : Text) (w : World) (s : State) (h : Shows ns w (seen s)) where
  -- ---- what is seen

  pub scratch_shown : (j : Text) → is_scratch j ≡ true → w.scores j ns ≡ s.scores j
  scratch_shown j k = h.scores j ∙ shown_scratch s.scores 0 (take score_places s.places) j (few_shown s.places) k

  pub place_shown : (i : ℕ) → i < score_places → i < length s.places → w.scores (place_name i) ns ≡ Some (place_at s i)
  place_shown i k l =
      h.scores (place_name i) ∙ ap (λ n. shown s.scores 0 (take score_places s.places) (place_name n)) (let x : i ≡ 0 + i = omega arith in x)
      ∙ shown_at s.scores 0 (take score_places s.places) i (few_shown s.places) (take_length score_places s.places i k l) ∙ ap Some (take_get score_places s.places i k)

  pub slot_selected : (i : ℕ) → score_places ≤ i → i < length s.places → select (tree_in w (rest_id ns)) (slot (i - score_places)) ≡ Some (int (place_at s i))
  slot_selected i k l =
      key_selects ns w (seen s) in_rest key_frame (key key_list ∷ place (pos (i - score_places)) ∷ []) h
      ∙ frame_get (drop score_places s.places) (i - score_places) (drop_length score_places s.places i k l) ∙ ap (λ z. Some (int z)) (drop_get score_places s.places i k)

  pub list_selected : select (tree_in w (rest_id ns)) frame_path ≡ Some (ints (drop score_places s.places))
  list_selected = key_selects ns w (seen s) in_rest key_frame (key key_list ∷ []) h

  pub spot_shown : (x : Spot) → SpotWorks x s → w.scores (spot_name x) ns ≡ read s x
  spot_shown (scratch j) k = scratch_shown j k
  spot_shown (placed i) k = place_shown i k.0 k.1

  pub key_seen : (r : Store) (k : Text) → is_frame r k ≡ false → (seen s).keys r k ≡ s.keys r k
  key_seen r k n = ap (λ b. if b then Some (frame_tree (drop score_places s.places)) else s.keys r k) n

  pub site_selected : (p : Site) → is_frame p.store p.name ≡ false → select (tree_in w (site_id ns p)) (site_path p) ≡ selected s p
  site_selected p n = key_selects ns w (seen s) p.store p.name p.parts h ∙ ap (option_and_then (λ u. select u p.parts)) (key_seen p.store p.name n)

  -- ---- what is written

  written_by : (w1 w2 : World) (u : State) → w1 ≡ w2 → Written ns w w1 (seen u) → Written ns w w2 (seen u)
  written_by w1 w2 u e g = subst (λ x. Written ns w x (seen u)) e g

  written_as : (w1 : World) (u t : State) → u ≡ t → Written ns w w1 (seen u) → Written ns w w1 (seen t)
  written_as w1 u t e g = subst (λ x. Written ns w w1 (seen x)) e g

  nothing_written : Written ns w w (seen s)
  nothing_written = written_none ns w (seen s) h

  pub scratch_written : (j : Text) (z : ℤ) → is_scratch j ≡ true → Written ns w (with_world_score w j ns z) (seen (with_score s j z))
  scratch_written j z k =
      let g = score_written ns w (seen s) j z h in
      record { shows = shows_as ns _ _ _ g.shows (λ q. shown_keep s.scores 0 (take score_places s.places) j z q (few_shown s.places) k) (λ r q. refl); outside = g.outside }

  score_place_written : (i : ℕ) (z : ℤ) → i < score_places → i < length s.places → Written ns w (with_world_score w (place_name i) ns z) (seen (with_place s i z))
  score_place_written i z k l =
      let g = score_written ns w (seen s) (place_name i) z h in
      record {
        shows = shows_as ns _ _ _ g.shows
            (λ q. ap (λ n. with_holder (shown s.scores 0 (take score_places s.places)) (place_name n) z q) (let x : i ≡ 0 + i = omega arith in x)
            ∙ shown_put s.scores 0 (take score_places s.places) i z q (few_shown s.places) (take_length score_places s.places i k l)
            ∙ ap (λ zs. shown s.scores 0 zs q) (sym (take_set_in score_places s.places i z k)))
            (λ r q. ap (λ zs. with_key s.keys in_rest key_frame (frame_tree zs) r q) (sym (drop_set_in score_places s.places i z k)));
        outside = g.outside;
      }

  spot_written : (x : Spot) (z : ℤ) → SpotWorks x s → Written ns w (with_world_score w (spot_name x) ns z) (seen (with_spot s x z))
  spot_written (scratch j) z k = scratch_written j z k
  spot_written (placed i) z k = score_place_written i z k.0 k.1

  -- a new tree of the frame
  frame_written : (zs : List ℤ) (w' : World) → Written ns w w' (after_key (seen s) in_rest key_frame (Some (frame_tree zs))) → (u : State) → u.scores ≡ s.scores → take score_places u.places ≡ take score_places s.places → drop score_places u.places ≡ zs → u.keys ≡ s.keys → Written ns w w' (seen u)
  frame_written zs w' g u a b d k = record {
    shows = shows_as ns _ _ _ g.shows
        (λ q. ap (λ f. shown f 0 (take score_places s.places) q) (sym a) ∙ ap (λ y. shown u.scores 0 y q) (sym b))
        (λ r q. twice r q (is_frame r q) ∙ ap (λ f. with_key f in_rest key_frame (frame_tree zs) r q) (sym k) ∙ ap (λ y. with_key u.keys in_rest key_frame (frame_tree y) r q) (sym d));
    outside = g.outside;
  }
    where
      twice : (r : Store) (j : Text) (b : Bool) → (if b then Some (frame_tree zs) else (if b then Some (frame_tree (drop score_places s.places)) else s.keys r j)) ≡ (if b then Some (frame_tree zs) else s.keys r j)
      twice r j true = refl
      twice r j false = refl

  frame_becomes : (ps : List Part) (t u : Tree) → set_under (Some (frame_tree (drop score_places s.places))) ps t ≡ Some u → depth u ≤ 63
      → Written ns w (stored w (rest_id ns) (set (tree_in w (rest_id ns)) (key key_frame ∷ ps) t)).world (after_key (seen s) in_rest key_frame (Some u))
  frame_becomes ps t u e d = subst (λ o. Written ns w (stored w (rest_id ns) (set (tree_in w (rest_id ns)) (key key_frame ∷ ps) t)).world (after_key (seen s) in_rest key_frame o))
      (ap (option_and_then within_key) e ∙ within_is u d) (key_set ns w (seen s) in_rest key_frame ps t h)

  frame_stays : (ps : List Part) (t : Tree) → set_under (Some (frame_tree (drop score_places s.places))) ps t ≡ None
      → Written ns w (stored w (rest_id ns) (set (tree_in w (rest_id ns)) (key key_frame ∷ ps) t)).world (seen s)
  frame_stays ps t e = subst (λ o. Written ns w (stored w (rest_id ns) (set (tree_in w (rest_id ns)) (key key_frame ∷ ps) t)).world (after_key (seen s) in_rest key_frame o))
      (ap (option_and_then within_key) e) (key_set ns w (seen s) in_rest key_frame ps t h)

  list_place_written : (i : ℕ) (z : ℤ) → score_places ≤ i → i < length s.places
      → Written ns w (stored w (rest_id ns) (set (tree_in w (rest_id ns)) (slot (i - score_places)) (int z))).world (seen (with_place s i z))
  list_place_written i z k l =
      let zs = slice_set (drop score_places s.places) (i - score_places) z in
      frame_written zs _
      (frame_becomes (key key_list ∷ place (pos (i - score_places)) ∷ []) (int z) (frame_tree zs) (frame_set (drop score_places s.places) (i - score_places) z (drop_length score_places s.places i k l)) (frame_low zs))
      (with_place s i z) refl (take_set_out score_places s.places i z k) (drop_set_out score_places s.places i z k) refl

  list_place_stays : (i : ℕ) (t : Tree) → score_places ≤ i → i < length s.places → nat_eq 0 (kind t) ≡ false
      → Written ns w (stored w (rest_id ns) (set (tree_in w (rest_id ns)) (slot (i - score_places)) t)).world (seen s)
  list_place_stays i t k l e = frame_stays (key key_list ∷ place (pos (i - score_places)) ∷ []) t (frame_refuses (drop score_places s.places) (i - score_places) t (drop_length score_places s.places i k l) e)

  -- all of the list
  list_written : (zs : List ℤ) → score_places ≤ length s.places → Written ns w (stored w (rest_id ns) (set (tree_in w (rest_id ns)) frame_path (ints zs))).world (seen (with_list s zs))
  list_written zs k = frame_written zs _ (frame_becomes (key key_list ∷ []) (ints zs) (frame_tree zs) refl (frame_low zs)) (with_list s zs) refl
      (take_append score_places (take score_places s.places) zs (take_full score_places s.places k)) (drop_append score_places (take score_places s.places) zs (take_full score_places s.places k)) refl

  -- another key's tree
  tree_written : (p : Site) (o : Option Tree) (w' : World) → is_frame p.store p.name ≡ false → Written ns w w' (after_key (seen s) p.store p.name o) → Written ns w w' (seen (with_tree s p o))
  tree_written p None w' n g = g
  tree_written p (Some u) w' n g = record { shows = shows_as ns _ _ _ g.shows (λ j. refl) (λ q j. swap_keys q j); outside = g.outside }
    where
      f : Tree
      f = frame_tree (drop score_places s.places)

      swap_keys : (q : Store) (j : Text) → (if same_store p.store q && bytes_eq p.name j then Some u else (if is_frame q j then Some f else s.keys q j)) ≡ (if is_frame q j then Some f else (if same_store p.store q && bytes_eq p.name j then Some u else s.keys q j))
      swap_keys q j = go (same_store p.store q && bytes_eq p.name j) refl (is_frame q j) refl
        where
          go : (a : Bool) → same_store p.store q && bytes_eq p.name j ≡ a → (b : Bool) → is_frame q j ≡ b → (if a then Some u else (if b then Some f else s.keys q j)) ≡ (if b then Some f else (if a then Some u else s.keys q j))
          go true e false y = refl
          go true e true y =
              let a : p.store ≡ q = store_same p.store q (and_first _ _ e) in
              let b : p.name ≡ j = (bytes_eq-Decides p.name j).0 (and_second (same_store p.store q) _ e) in
              let z : is_frame p.store p.name ≡ true = ap (λ r. is_frame r p.name) a ∙ ap (is_frame q) b ∙ y in
              absurd (let v : false ≡ true = sym n ∙ z in cc)
          go false e b y = refl

  site_set : (p : Site) (t : Tree) → is_frame p.store p.name ≡ false → Written ns w (stored w (site_id ns p) (set (tree_in w (site_id ns p)) (site_path p) t)).world (seen (with_set s p t))
  site_set p t n = tree_written p _ _ n
      (subst (λ k. Written ns w (stored w (site_id ns p) (set (tree_in w (site_id ns p)) (site_path p) t)).world (after_key (seen s) p.store p.name (option_and_then within_key (set_under k p.parts t)))) (key_seen p.store p.name n) (key_set ns w (seen s) p.store p.name p.parts t h))

  site_appended : (p : Site) (t : Tree) → is_frame p.store p.name ≡ false → Written ns w (stored w (site_id ns p) (append (tree_in w (site_id ns p)) (site_path p) t)).world (seen (with_append s p t))
  site_appended p t n = tree_written p _ _ n
      (subst (λ k. Written ns w (stored w (site_id ns p) (append (tree_in w (site_id ns p)) (site_path p) t)).world (after_key (seen s) p.store p.name (option_and_then within_key (append_under k p.parts t)))) (key_seen p.store p.name n) (key_append ns w (seen s) p.store p.name p.parts t h))

  site_erased : (p : Site) → is_frame p.store p.name ≡ false → has_parts p.parts ≡ true → Written ns w (stored w (site_id ns p) (remove (tree_in w (site_id ns p)) (site_path p))).world (seen (with_erased s p))
  site_erased p n m = tree_written p _ _ n (by p.parts m)
    where
      by : (ps : List Part) → has_parts ps ≡ true → Written ns w (stored w (site_id ns p) (remove (tree_in w (site_id ns p)) (key p.name ∷ ps))).world (after_key (seen s) p.store p.name (remove_under (s.keys p.store p.name) ps))
      by [] m = absurd cc
      by (q ∷ qs) m = subst (λ k. Written ns w (stored w (site_id ns p) (remove (tree_in w (site_id ns p)) (key p.name ∷ q ∷ qs))).world (after_key (seen s) p.store p.name (remove_under k (q ∷ qs)))) (key_seen p.store p.name n) (key_erase ns w (seen s) p.store p.name q qs h)

  -- ---- what is said writes this

  pub record SaidWrites (d : Said) (u : State) : Type 0 where
    pub goes : all_go_on d.stores w ≡ true
    pub direct : is_direct d.simple ≡ true
    pub written : Written ns w (store_all d.stores (effect d.simple w).result (effect d.simple w).world) (seen u)

  set_writes : (t : Text) (z : ℤ) (u : State) → Written ns w (with_world_score w t ns z) (seen u) → SaidWrites (says (score_set t ns z)) u
  set_writes t z u g = record { goes = refl; direct = refl; written = written_by _ _ u (sym (ap (λ b. (if b then leaves (with_world_score w t ns z) else fails_in w).world) h.objective)) g }

  -- one score as another, which is set or not
  op_effect : (t g : Text) (op : Op) (o : Option ℤ) → w.scores g ns ≡ o → (effect (score_op t ns op g ns) w).world ≡ (operated w t ns op g ns o).world
  op_effect t g op o e = ap (λ b. (if b then (if b then operated w t ns op g ns (w.scores g ns) else fails_in w) else fails_in w).world) h.objective ∙ ap (λ o. (operated w t ns op g ns o).world) e

  assign_writes : (t g : Text) (z : ℤ) (u : State) → w.scores g ns ≡ Some z → Written ns w (with_world_score w t ns z) (seen u) → SaidWrites (says (score_op t ns assign g ns)) u
  assign_writes t g z u e k = record { goes = refl; direct = refl; written = written_by _ _ u (sym (op_effect t g assign (Some z) e)) k }

  assign_unset : (t g : Text) → w.scores g ns ≡ None → SaidWrites (says (score_op t ns assign g ns)) s
  assign_unset t g e = record { goes = refl; direct = refl; written = written_by _ _ s (sym (op_effect t g assign None e)) nothing_written }

  -- what a path holds is put into a score
  looked : (t : Text) (o : Option Tree) → store_all (store_score t ns ∷ []) (got w (option_map number_of o)).result (got w (option_map number_of o)).world ≡ with_world_score w t ns (number_at o)
  looked t None = refl
  looked t (Some u) = refl

  got_writes : (t j : Text) (ps : List Part) (o : Option Tree) (u : State) → select (tree_in w j) ps ≡ o → Written ns w (with_world_score w t ns (number_at o)) (seen u) → SaidWrites (storing (store_score t ns) (data_get j ps)) u
  got_writes t j ps o u e g = record {
    goes = ap (λ b. b && true) h.objective;
    direct = refl;
    written = written_by _ _ u (sym (ap (λ o. store_all (store_score t ns ∷ []) (got w (option_map number_of o)).result (got w (option_map number_of o)).world) e ∙ looked t o)) g;
  }

  -- a score, which is set or not, is put under a path
  kept_zero : (j : Text) (ps : List Part) (o : Option ℤ) → store_all (store_data j ps ∷ []) (got w o).result (got w o).world ≡ (stored w j (set (tree_in w j) ps (int (or_zero o)))).world
  kept_zero j ps None = refl
  kept_zero j ps (Some z) = refl

  kept_writes : (t j : Text) (ps : List Part) (o : Option ℤ) (u : State) → w.scores t ns ≡ o → Written ns w (stored w j (set (tree_in w j) ps (int (or_zero o)))).world (seen u) → SaidWrites (storing (store_data j ps) (score_get t ns)) u
  kept_writes t j ps o u e g = record {
    goes = refl;
    direct = refl;
    written = written_by _ _ u (sym (ap (λ b. let o = (if b then got w (w.scores t ns) else fails_in w) in store_all (store_data j ps ∷ []) o.result o.world) h.objective
        ∙ ap (λ o. store_all (store_data j ps ∷ []) (got w o).result (got w o).world) e ∙ kept_zero j ps o)) g;
  }

  -- one path as another one, which selects something or nothing
  from_writes : (i j : Text) (ps qs : List Part) (o : Option Tree) (u : State) → select (tree_in w j) qs ≡ o → Written ns w (stored w i (option_and_then (set (tree_in w i) ps) o)).world (seen u) → SaidWrites (says (set_from i ps j qs)) u
  from_writes i j ps qs o u e g = record { goes = refl; direct = refl; written = written_by _ _ u (sym (ap (λ o. (stored w i (option_and_then (set (tree_in w i) ps) o)).world) e)) g }

  -- ---- by where places are

  home_writes : (i : ℕ) (z : ℤ) → i < length s.places → SaidWrites (set_home ns (home i) z) (with_place s i z)
  home_writes i z l = by (home_case i)
    where
      by : At i → SaidWrites (set_home ns (home i) z) (with_place s i z)
      by (inl e) = subst (λ q. SaidWrites (set_home ns q z) (with_place s i z)) (sym e.1) (set_writes (place_name i) z _ (score_place_written i z e.0 l))
      by (inr e) = subst (λ q. SaidWrites (set_home ns q z) (with_place s i z)) (sym e.1) (record { goes = refl; direct = refl; written = list_place_written i z e.0 l })

  load_writes : (t : Text) (i : ℕ) (u : State) → i < length s.places → Written ns w (with_world_score w t ns (place_at s i)) (seen u) → SaidWrites (load_home ns t (home i)) u
  load_writes t i u l g = by (home_case i)
    where
      by : At i → SaidWrites (load_home ns t (home i)) u
      by (inl e) = subst (λ q. SaidWrites (load_home ns t q) u) (sym e.1) (assign_writes t (place_name i) (place_at s i) u (place_shown i e.0 l) g)
      by (inr e) = subst (λ q. SaidWrites (load_home ns t q) u) (sym e.1) (got_writes t (rest_id ns) (slot (i - score_places)) (Some (int (place_at s i))) u (slot_selected i e.0 l) g)

  kept_low : (i : ℕ) → i < score_places → with_kept s i None ≡ s
  kept_low i k = ap (λ b. if b then s else with_place s i (pos 0)) (lt-ltb i score_places k)

  high_is : (i : ℕ) → score_places ≤ i → nat_lt i score_places ≡ false
  high_is i k = go (nat_lt i score_places) refl
    where
      go : (b : Bool) → nat_lt i score_places ≡ b → b ≡ false
      go true e = absurd (let x = ltb-true i score_places e in omega arith)
      go false e = refl

  keep_writes : (i : ℕ) (t : Text) (o : Option ℤ) → w.scores t ns ≡ o → i < length s.places → SaidWrites (keep_home ns (home i) t) (with_kept s i o)
  keep_writes i t None e l = by (home_case i)
    where
      by : At i → SaidWrites (keep_home ns (home i) t) (with_kept s i None)
      by (inl q) = subst (λ x. SaidWrites (keep_home ns x t) (with_kept s i None)) (sym q.1) (subst (λ u. SaidWrites (keep_home ns (in_score i) t) u) (sym (kept_low i q.0)) (assign_unset (place_name i) t e))
      by (inr q) = subst (λ x. SaidWrites (keep_home ns x t) (with_kept s i None)) (sym q.1)
          (subst (λ u. SaidWrites (keep_home ns (in_list (i - score_places)) t) u) (sym (ap (λ b. if b then s else with_place s i (pos 0)) (high_is i q.0)))
          (kept_writes t (rest_id ns) (slot (i - score_places)) None (with_place s i (pos 0)) e (list_place_written i (pos 0) q.0 l)))
  keep_writes i t (Some z) e l = by (home_case i)
    where
      by : At i → SaidWrites (keep_home ns (home i) t) (with_place s i z)
      by (inl q) = subst (λ x. SaidWrites (keep_home ns x t) (with_place s i z)) (sym q.1) (assign_writes (place_name i) t z _ e (score_place_written i z q.0 l))
      by (inr q) = subst (λ x. SaidWrites (keep_home ns x t) (with_place s i z)) (sym q.1) (kept_writes t (rest_id ns) (slot (i - score_places)) (Some z) (with_place s i z) e (list_place_written i z q.0 l))

  copy_writes : (i j : ℕ) → i < length s.places → j < length s.places → SaidWrites (copy_home ns (home i) (home j)) (with_place s i (place_at s j))
  copy_writes i j k l = from_j (home_case j)
    where
      u : State
      u = with_place s i (place_at s j)

      from_j : At j → SaidWrites (copy_home ns (home i) (home j)) (with_place s i (place_at s j))
      from_j (inl e) = subst (λ q. SaidWrites (copy_home ns (home i) q) (with_place s i (place_at s j))) (sym e.1) (keep_writes i (place_name j) (Some (place_at s j)) (place_shown j e.0 l) k)
      from_j (inr e) = subst (λ q. SaidWrites (copy_home ns (home i) q) (with_place s i (place_at s j))) (sym e.1) (to_i (home_case i))
        where
          to_i : At i → SaidWrites (copy_home ns (home i) (in_list (j - score_places))) (with_place s i (place_at s j))
          to_i (inl f) = subst (λ q. SaidWrites (copy_home ns q (in_list (j - score_places))) (with_place s i (place_at s j))) (sym f.1)
              (got_writes (place_name i) (rest_id ns) (slot (j - score_places)) (Some (int (place_at s j))) (with_place s i (place_at s j)) (slot_selected j e.0 l) (score_place_written i (place_at s j) f.0 k))
          to_i (inr f) = subst (λ q. SaidWrites (copy_home ns q (in_list (j - score_places))) (with_place s i (place_at s j))) (sym f.1)
              (from_writes (rest_id ns) (rest_id ns) (slot (i - score_places)) (slot (j - score_places)) (Some (int (place_at s j))) (with_place s i (place_at s j)) (slot_selected j e.0 l) (list_place_written i (place_at s j) f.0 k))

  to_site_writes : (p : Site) (i : ℕ) → is_frame p.store p.name ≡ false → i < length s.places → SaidWrites (home_to_site ns p (home i)) (with_set s p (int (place_at s i)))
  to_site_writes p i n l = by (home_case i)
    where
      by : At i → SaidWrites (home_to_site ns p (home i)) (with_set s p (int (place_at s i)))
      by (inl e) = subst (λ q. SaidWrites (home_to_site ns p q) (with_set s p (int (place_at s i)))) (sym e.1) (kept_writes (place_name i) (site_id ns p) (site_path p) (Some (place_at s i)) (with_set s p (int (place_at s i))) (place_shown i e.0 l) (site_set p (int (place_at s i)) n))
      by (inr e) = subst (λ q. SaidWrites (home_to_site ns p q) (with_set s p (int (place_at s i)))) (sym e.1) (from_writes (site_id ns p) (rest_id ns) (site_path p) (slot (i - score_places)) (Some (int (place_at s i))) (with_set s p (int (place_at s i))) (slot_selected i e.0 l) (site_set p (int (place_at s i)) n))

  taken_low : (i : ℕ) (o : Option Tree) → i < score_places → with_place s i (number_at o) ≡ with_taken s i o
  taken_low i None k = sym (ap (λ b. if b then with_place s i (pos 0) else s) (lt-ltb i score_places k))
  taken_low i (Some (int z)) k = refl
  taken_low i (Some (string b)) k = sym (ap (λ c. if c then with_place s i (number_at (Some (string b))) else s) (lt-ltb i score_places k))
  taken_low i (Some (list ts)) k = sym (ap (λ c. if c then with_place s i (number_at (Some (list ts))) else s) (lt-ltb i score_places k))
  taken_low i (Some (compound fs)) k = sym (ap (λ c. if c then with_place s i (number_at (Some (compound fs))) else s) (lt-ltb i score_places k))

  taken_high : (i : ℕ) (o : Option Tree) → score_places ≤ i → i < length s.places → Written ns w (stored w (rest_id ns) (option_and_then (set (tree_in w (rest_id ns)) (slot (i - score_places))) o)).world (seen (with_taken s i o))
  taken_high i None k l = written_as w s _ (sym (ap (λ b. if b then with_place s i (pos 0) else s) (high_is i k))) nothing_written
  taken_high i (Some (int z)) k l = list_place_written i z k l
  taken_high i (Some (string b)) k l = written_as _ s _ (sym (ap (λ c. if c then with_place s i (number_at (Some (string b))) else s) (high_is i k))) (list_place_stays i (string b) k l refl)
  taken_high i (Some (list ts)) k l = written_as _ s _ (sym (ap (λ c. if c then with_place s i (number_at (Some (list ts))) else s) (high_is i k))) (list_place_stays i (list ts) k l refl)
  taken_high i (Some (compound fs)) k l = written_as _ s _ (sym (ap (λ c. if c then with_place s i (number_at (Some (compound fs))) else s) (high_is i k))) (list_place_stays i (compound fs) k l refl)

  from_site_writes : (i : ℕ) (p : Site) → is_frame p.store p.name ≡ false → i < length s.places → SaidWrites (site_to_home ns (home i) p) (with_taken s i (selected s p))
  from_site_writes i p n l = by (home_case i)
    where
      by : At i → SaidWrites (site_to_home ns (home i) p) (with_taken s i (selected s p))
      by (inl e) = subst (λ q. SaidWrites (site_to_home ns q p) (with_taken s i (selected s p))) (sym e.1)
          (subst (SaidWrites (site_to_home ns (in_score i) p)) (taken_low i (selected s p) e.0)
          (got_writes (place_name i) (site_id ns p) (site_path p) (selected s p) (with_place s i (number_at (selected s p))) (site_selected p n) (score_place_written i (number_at (selected s p)) e.0 l)))
      by (inr e) = subst (λ q. SaidWrites (site_to_home ns q p) (with_taken s i (selected s p))) (sym e.1)
          (from_writes (rest_id ns) (site_id ns p) (slot (i - score_places)) (site_path p) (selected s p) (with_taken s i (selected s p)) (site_selected p n) (taken_high i (selected s p) e.0 l))

  -- ---- every act

  copied : (p : Site) (o : Option Tree) → is_frame p.store p.name ≡ false → Written ns w (stored w (site_id ns p) (option_and_then (set (tree_in w (site_id ns p)) (site_path p)) o)).world (seen (with_copy s p o))
  copied p None n = nothing_written
  copied p (Some t) n = site_set p t n

  append_copied : (p : Site) (o : Option Tree) → is_frame p.store p.name ≡ false → Written ns w (stored w (site_id ns p) (option_and_then (append (tree_in w (site_id ns p)) (site_path p)) o)).world (seen (with_append_copy s p o))
  append_copied p None n = nothing_written
  append_copied p (Some t) n = site_appended p t n

  combine_writes : (x : Spot) (op : Op) (y : Spot) → SpotWorks x s → SpotWorks y s → not (is_swap op) ≡ true → SaidWrites (act_said ns (combine x op y)) (combined s x op (read s y))
  combine_writes x op y kx ky n = record { goes = refl; direct = refl; written = written_by _ _ (combined s x op (read s y)) (sym (op_effect (spot_name x) (spot_name y) op (read s y) (spot_shown y ky))) (by (read s y)) }
    where
      kept : (op : Op) (v : World) (z : ℤ) → not (is_swap op) ≡ true → with_source op v (spot_name y) ns z ≡ v
      kept assign v z e = refl
      kept add v z e = refl
      kept subtract v z e = refl
      kept multiply v z e = refl
      kept divide v z e = refl
      kept remainder v z e = refl
      kept lower v z e = refl
      kept raise v z e = refl
      kept swap v z e = absurd cc

      last : (o : Option ℤ) → Written ns w (scored w (spot_name x) ns o).world (seen (with_some_spot s x o))
      last None = nothing_written
      last (Some z) = spot_written x z kx

      by : (o : Option ℤ) → Written ns w (operated w (spot_name x) ns op (spot_name y) ns o).world (seen (combined s x op o))
      by None = nothing_written
      by (Some b) =
          let old = or_zero (w.scores (spot_name x) ns) in
          subst (λ v. Written ns w (scored v (spot_name x) ns (operate op old b)).world (seen (with_some_spot s x (operate op (or_zero (read s x)) b)))) (sym (kept op w old n))
          (subst (λ o. Written ns w (scored w (spot_name x) ns (operate op (or_zero o) b)).world (seen (with_some_spot s x (operate op (or_zero (read s x)) b)))) (sym (spot_shown x kx)) (last (operate op (or_zero (read s x)) b)))

  -- a number more or less
  changed_writes : (x : Spot) (f : ℤ → ℤ) (c : Simple) → SpotWorks x s → is_direct c ≡ true → (effect c w).world ≡ (if w.objectives ns then leaves (with_world_score w (spot_name x) ns (wrapped (f (or_zero (w.scores (spot_name x) ns))))) else fails_in w).world
      → SaidWrites (says c) (with_spot s x (wrapped (f (or_zero (read s x)))))
  changed_writes x f c k d e = record {
    goes = refl;
    direct = d;
    written = written_by _ _ (with_spot s x (wrapped (f (or_zero (read s x)))))
        (sym (e ∙ ap (λ b. (if b then leaves (with_world_score w (spot_name x) ns (wrapped (f (or_zero (w.scores (spot_name x) ns))))) else fails_in w).world) h.objective ∙ ap (λ o. with_world_score w (spot_name x) ns (wrapped (f (or_zero o)))) (spot_shown x k)))
        (spot_written x (wrapped (f (or_zero (read s x)))) k);
  }

  scratch_is : (j : Text) → scratch_fits j ≡ true → is_scratch j ≡ true
  scratch_is j f = and_first (is_scratch j) _ f

  open_writes : (i : ℕ) → i < score_places → length s.places ≡ i → SaidWrites (act_said ns (open_place i)) (after_act (open_place i) s)
  open_writes i z y = set_writes (place_name i) (pos 0) _ opened
    where
      few : length (s.places ++ (pos 0 ∷ [])) ≤ score_places
      few = let x = length-append s.places (pos 0 ∷ []) in omega arith

      opened : Written ns w (with_world_score w (place_name i) ns (pos 0)) (seen (record s { places = s.places ++ (pos 0 ∷ []) }))
      opened =
          let g = score_written ns w (seen s) (place_name i) (pos 0) h in
          let all : take score_places s.places ≡ s.places = take_all score_places s.places (omega arith) in
          record {
            shows = shows_as ns _ _ _ g.shows
                (λ q. ap (λ zs. with_holder (shown s.scores 0 zs) (place_name i) (pos 0) q) all ∙ ap (λ n. with_holder (shown s.scores 0 s.places) (place_name n) (pos 0) q) (let x : i ≡ 0 + length s.places = omega arith in x)
                ∙ shown_more s.scores 0 s.places (pos 0) q (omega arith) ∙ ap (λ zs. shown s.scores 0 zs q) (sym (take_all score_places (s.places ++ (pos 0 ∷ [])) few)))
                (λ r q. ap (λ zs. with_key s.keys in_rest key_frame (frame_tree zs) r q) (drop_all score_places s.places (omega arith) ∙ sym (drop_all score_places (s.places ++ (pos 0 ∷ [])) few)));
            outside = g.outside;
          }

  pub act_writes : (a : Act) → act_fits a ≡ true → ActReady a s → SaidWrites (act_said ns a) (after_act a s)
  act_writes (set_spot x z) f r = set_writes (spot_name x) z _ (spot_written x z (spot_works x s (and_first _ _ f) r))
  act_writes (increase x n) f r = changed_writes x (λ a. a +ℤ pos n) _ (spot_works x s (and_first _ _ f) r) refl refl
  act_writes (decrease x n) f r = changed_writes x (λ a. a -ℤ pos n) _ (spot_works x s (and_first _ _ f) r) refl refl
  act_writes (combine x op y) f r =
      let g = and_second (spot_fits x) _ f in
      combine_writes x op y (spot_works x s (and_first _ _ f) r.0) (spot_works y s (and_first (spot_fits y) (not (is_swap op)) g) r.1) (and_second (spot_fits y) (not (is_swap op)) g)
  act_writes (set_place i z) f r = home_writes i z r
  act_writes (copy_place i j) f r = copy_writes i j r.0 r.1
  act_writes (load_place j i) f r = load_writes j i _ r (scratch_written j (place_at s i) (scratch_is j (and_first _ _ f)))
  act_writes (keep_place i j) f r = keep_writes i j (s.scores j) (scratch_shown j (scratch_is j (and_second (place_fits i) _ f))) r
  act_writes (load_site j p) f r = got_writes j (site_id ns p) (site_path p) (selected s p) _ (site_selected p (apart_from_frame p (and_second (scratch_fits j) _ f))) (scratch_written j (number_at (selected s p)) (scratch_is j (and_first _ _ f)))
  act_writes (keep_site p j) f r = kept_writes j (site_id ns p) (site_path p) (s.scores j) _ (scratch_shown j (scratch_is j (and_second (site_fits p) _ f))) (site_set p (int (or_zero (s.scores j))) (apart_from_frame p (and_first _ _ f)))
  act_writes (place_to_site p i) f r = to_site_writes p i (apart_from_frame p (and_first _ _ f)) r
  act_writes (site_to_place i p) f r = from_site_writes i p (apart_from_frame p (and_second (place_fits i) _ f)) r
  act_writes (set_site p t) f r = record { goes = refl; direct = refl; written = site_set p t (apart_from_frame p (and_first _ _ f)) }
  act_writes (copy_site p q) f r = from_writes (site_id ns p) (site_id ns q) (site_path p) (site_path q) (selected s q) _ (site_selected q (apart_from_frame q (and_second (site_fits p) _ f))) (copied p (selected s q) (apart_from_frame p (and_first _ _ f)))
  act_writes (append_value_to p t) f r = record { goes = refl; direct = refl; written = site_appended p t (apart_from_frame p (and_first _ _ f)) }
  act_writes (append_site p q) f r = record {
    goes = refl;
    direct = refl;
    written = written_by _ _ (after_act (append_site p q) s) (sym (ap (λ o. (stored w (site_id ns p) (option_and_then (append (tree_in w (site_id ns p)) (site_path p)) o)).world) (site_selected q (apart_from_frame q (and_second (site_fits p) _ f))))) (append_copied p (selected s q) (apart_from_frame p (and_first _ _ f)));
  }
  act_writes (erase_site p) f r = record { goes = refl; direct = refl; written = site_erased p (apart_from_frame p (and_first _ _ f)) (and_second (site_fits p) _ f) }
  act_writes (open_place i) f r = open_writes i (ltb-true i score_places f) r
  act_writes (make_list zs) f r = record { goes = refl; direct = refl; written = list_written zs r }
  act_writes (save_list p) f r = from_writes (site_id ns p) (rest_id ns) (site_path p) frame_path (Some (ints (drop score_places s.places))) _ list_selected (site_set p (ints (drop score_places s.places)) (apart_from_frame p f))
  act_writes (restore_list p) f r =
      subst (SaidWrites (act_said ns (restore_list p))) (sym (ap (λ o. with_some_list s (some_ints o)) r.2 ∙ ap (with_some_list s) (ints_are r.1)))
      (from_writes (rest_id ns) (site_id ns p) frame_path (site_path p) (Some (ints r.1)) (with_list s r.1) (site_selected p (apart_from_frame p f) ∙ r.2) (list_written r.1 r.0))

  -- ---- conditions

  check_shown : (c : Check) → check_fits c ≡ true → CheckReady c s → (goes_on (cond_sub ns (holds c)) w ≡ check_holds c s) × (goes_on (cond_sub ns (fails c)) w ≡ not (check_holds c s))
  check_shown (in_range x r) f k =
      let e = spot_shown x (spot_works x s (and_first _ _ f) k) in
      (ap (λ b. b && some_is_in r (w.scores (spot_name x) ns)) h.objective ∙ ap (some_is_in r) e, ap (λ b. b && not (some_is_in r (w.scores (spot_name x) ns))) h.objective ∙ ap (λ o. not (some_is_in r o)) e)
  check_shown (compare x c y) f k =
      let e = spot_shown x (spot_works x s (and_first _ _ f) k.0) in
      let d = spot_shown y (spot_works y s (and_second (spot_fits x) _ f) k.1) in (
        ap (λ b. (b && b) && both_compare c (w.scores (spot_name x) ns) (w.scores (spot_name y) ns)) h.objective ∙ ap (λ o. both_compare c o (w.scores (spot_name y) ns)) e ∙ ap (both_compare c (read s x)) d,
        ap (λ b. (b && b) && not (both_compare c (w.scores (spot_name x) ns) (w.scores (spot_name y) ns))) h.objective ∙ ap (λ o. not (both_compare c o (w.scores (spot_name y) ns))) e ∙ ap (λ o. not (both_compare c (read s x) o)) d,
      )
  check_shown (stands p) f k = let e = site_selected p (apart_from_frame p f) in (ap is_some e, ap (λ o. not (is_some o)) e)

  cond_shown : (c : Cond) → cond_fits c ≡ true → CondReady c s → goes_on (cond_sub ns c) w ≡ cond_holds c s
  cond_shown (holds c) f k = (check_shown c f k).0
  cond_shown (fails c) f k = (check_shown c f k).1

  pub conds_shown : (cs : List Cond) → list_all cond_fits cs ≡ true → CondsReady cs s → all_go_on (cond_subs ns cs) w ≡ conds_hold cs s
  conds_shown [] f k = refl
  conds_shown (c ∷ cs) f k = ap (λ b. b && all_go_on (cond_subs ns cs) w) (cond_shown c (and_first _ _ f) k.0) ∙ ap (λ b. cond_holds c s && b) (conds_shown cs (and_second (cond_fits c) _ f) k.1)

  -- conditions and then what is said
  pub conds_and : (cs : List Cond) (us : List Sub) → list_all cond_fits cs ≡ true → CondsReady cs s → all_go_on (cond_subs ns cs ++ us) w ≡ conds_hold cs s && all_go_on us w
  conds_and [] us f k = refl
  conds_and (c ∷ cs) us f k =
      ap (λ b. b && all_go_on (cond_subs ns cs ++ us) w) (cond_shown c (and_first _ _ f) k.0) ∙ ap (λ b. cond_holds c s && b) (conds_and cs us (and_second (cond_fits c) _ f) k.1)
      ∙ sym (and_assoc (cond_holds c s) (conds_hold cs s) (all_go_on us w))
    where
      and_assoc : (a b e : Bool) → (a && b) && e ≡ a && (b && e)
      and_assoc true b e = refl
      and_assoc false b e = refl

pub conds_store : (ns : Text) (cs : List Cond) (us : List Sub) (z : ℤ) (w : World) → store_all (cond_subs ns cs ++ us) z w ≡ store_all us z w
conds_store ns [] us z w = refl
conds_store ns (holds c ∷ cs) us z w = conds_store ns cs us z w
conds_store ns (fails c ∷ cs) us z w = conds_store ns cs us z w
