-- Acts and conditions that don't speak of the key of the next piece do the same whatever stands there.
use Rattle.std.proofs.Common.{◌≡◌, ℕ, List, [], ◌∷◌, Option, Some, None, Bool, true, false, refl, ap, ◌∙◌}
use Rattle.std.specs.Prelude.{ℤ, pos, ◌+ℤ◌, ◌-ℤ◌, ◌&&◌, ◌||◌, not, if◌then◌else◌, is_some, drop, nat_lt, option_and_then}
use Rattle.mc_nbt.specs.Tree.{Tree, int, string, list, compound, select}
use Rattle.mc_cmd.specs.Command.{Op}
use Rattle.mc_cmd.specs.World.{both_compare, operate, or_zero, some_is_in, wrapped}
use Rattle.cc_line.specs.Place.{score_places, Spot, scratch, placed}
use Rattle.cc_line.specs.State.{State, Site, ints, read, with_spot, with_place, with_score, number_at, selected, place_at, with_tree, with_set, with_append, with_copy, with_append_copy, with_erased, with_some_list, within_key, set_under, append_under, remove_under}
use Rattle.cc_line.specs.Step.{Act, set_spot, increase, decrease, combine, set_place, copy_place, load_place, keep_place, load_site, keep_site, place_to_site, site_to_place, set_site, copy_site, append_value_to, append_site, erase_site, open_place, make_list, save_list, restore_list, Check, in_range, compare, stands, check_holds, Cond, holds, fails, cond_holds, conds_hold, with_some_spot, combined, with_kept, with_taken, some_ints, after_act, SpotReady, ActReady, CheckReady, CondReady, CondsReady}
use Rattle.cc_names.specs.Names.{is_next, act_speaks, check_speaks, cond_speaks, conds_speak}
use Rattle.cc_names.proofs.Next.{with_next, key_kept, tree_elsewhere}

-- ---- tests

pub neither_first : (a b : Bool) → (a || b) ≡ false → a ≡ false
neither_first true b e = absurd cc
neither_first false b e = refl

pub neither_second : (a b : Bool) → (a || b) ≡ false → b ≡ false
neither_second true b e = absurd cc
neither_second false b e = e

-- ---- the state with something else under the key

module _ (o : Option Tree) where
  read_alike : (s : State) (x : Spot) → read (with_next s o) x ≡ read s x
  read_alike s (scratch h) = refl
  read_alike s (placed i) = refl

  pub selected_alike : (s : State) (p : Site) → is_next p.store p.name ≡ false → selected (with_next s o) p ≡ selected s p
  selected_alike s p e = ap (option_and_then (λ u. select u p.parts)) (key_kept s o p.store p.name e)

  if_alike : (b : Bool) (s t : State) → (if b then with_next s o else with_next t o) ≡ with_next (if b then s else t) o
  if_alike true s t = refl
  if_alike false s t = refl

  spot_alike : (s : State) (x : Spot) (z : ℤ) → with_spot (with_next s o) x z ≡ with_next (with_spot s x z) o
  spot_alike s (scratch h) z = refl
  spot_alike s (placed i) z = refl

  some_spot_alike : (s : State) (x : Spot) (v : Option ℤ) → with_some_spot (with_next s o) x v ≡ with_next (with_some_spot s x v) o
  some_spot_alike s x None = refl
  some_spot_alike s x (Some z) = spot_alike s x z

  combined_alike : (s : State) (x : Spot) (op : Op) (v : Option ℤ) → combined (with_next s o) x op v ≡ with_next (combined s x op v) o
  combined_alike s x op None = refl
  combined_alike s x op (Some b) = ap (λ a. with_some_spot (with_next s o) x (operate op (or_zero a) b)) (read_alike s x) ∙ some_spot_alike s x (operate op (or_zero (read s x)) b)

  kept_alike : (s : State) (i : ℕ) (v : Option ℤ) → with_kept (with_next s o) i v ≡ with_next (with_kept s i v) o
  kept_alike s i None = if_alike (nat_lt i score_places) s (with_place s i (pos 0))
  kept_alike s i (Some z) = refl

  taken_alike : (s : State) (i : ℕ) (v : Option Tree) → with_taken (with_next s o) i v ≡ with_next (with_taken s i v) o
  taken_alike s i None = if_alike (nat_lt i score_places) (with_place s i (pos 0)) s
  taken_alike s i (Some (int z)) = refl
  taken_alike s i (Some (string b)) = if_alike (nat_lt i score_places) (with_place s i (number_at (Some (string b)))) s
  taken_alike s i (Some (list ts)) = if_alike (nat_lt i score_places) (with_place s i (number_at (Some (list ts)))) s
  taken_alike s i (Some (compound fs)) = if_alike (nat_lt i score_places) (with_place s i (number_at (Some (compound fs)))) s

  some_list_alike : (s : State) (v : Option (List ℤ)) → with_some_list (with_next s o) v ≡ with_next (with_some_list s v) o
  some_list_alike s None = refl
  some_list_alike s (Some zs) = refl

  -- under another key
  module _ (s : State) (p : Site) (e : is_next p.store p.name ≡ false) where
    changed_alike : (change : Option Tree → Option Tree) → with_tree (with_next s o) p (change ((with_next s o).keys p.store p.name)) ≡ with_next (with_tree s p (change (s.keys p.store p.name))) o
    changed_alike change = ap (λ v. with_tree (with_next s o) p (change v)) (key_kept s o p.store p.name e) ∙ tree_elsewhere s o p (change (s.keys p.store p.name)) e

    set_alike : (t : Tree) → with_set (with_next s o) p t ≡ with_next (with_set s p t) o
    set_alike t = changed_alike (λ v. option_and_then within_key (set_under v p.parts t))

    append_alike : (t : Tree) → with_append (with_next s o) p t ≡ with_next (with_append s p t) o
    append_alike t = changed_alike (λ v. option_and_then within_key (append_under v p.parts t))

    erased_alike : with_erased (with_next s o) p ≡ with_next (with_erased s p) o
    erased_alike = changed_alike (λ v. remove_under v p.parts)

    copy_alike : (v : Option Tree) → with_copy (with_next s o) p v ≡ with_next (with_copy s p v) o
    copy_alike None = refl
    copy_alike (Some t) = set_alike t

    append_copy_alike : (v : Option Tree) → with_append_copy (with_next s o) p v ≡ with_next (with_append_copy s p v) o
    append_copy_alike None = refl
    append_copy_alike (Some t) = append_alike t

  -- ---- acts

  pub act_alike : (a : Act) (s : State) → act_speaks a ≡ false → after_act a (with_next s o) ≡ with_next (after_act a s) o
  act_alike (set_spot x z) s e = spot_alike s x z
  act_alike (increase x n) s e = ap (λ v. with_spot (with_next s o) x (wrapped (or_zero v +ℤ pos n))) (read_alike s x) ∙ spot_alike s x (wrapped (or_zero (read s x) +ℤ pos n))
  act_alike (decrease x n) s e = ap (λ v. with_spot (with_next s o) x (wrapped (or_zero v -ℤ pos n))) (read_alike s x) ∙ spot_alike s x (wrapped (or_zero (read s x) -ℤ pos n))
  act_alike (combine x op y) s e = ap (combined (with_next s o) x op) (read_alike s y) ∙ combined_alike s x op (read s y)
  act_alike (set_place i z) s e = refl
  act_alike (copy_place i j) s e = refl
  act_alike (load_place g i) s e = refl
  act_alike (keep_place i g) s e = kept_alike s i (s.scores g)
  act_alike (load_site g p) s e = ap (λ v. with_score (with_next s o) g (number_at v)) (selected_alike s p e)
  act_alike (keep_site p g) s e = set_alike s p e (int (or_zero (s.scores g)))
  act_alike (place_to_site p i) s e = set_alike s p e (int (place_at s i))
  act_alike (site_to_place i p) s e = ap (with_taken (with_next s o) i) (selected_alike s p e) ∙ taken_alike s i (selected s p)
  act_alike (set_site p t) s e = set_alike s p e t
  act_alike (copy_site p q) s e =
      let f = neither_first (is_next p.store p.name) (is_next q.store q.name) e in
      let g = neither_second (is_next p.store p.name) (is_next q.store q.name) e in
      ap (with_copy (with_next s o) p) (selected_alike s q g) ∙ copy_alike s p f (selected s q)
  act_alike (append_value_to p t) s e = append_alike s p e t
  act_alike (append_site p q) s e =
      let f = neither_first (is_next p.store p.name) (is_next q.store q.name) e in
      let g = neither_second (is_next p.store p.name) (is_next q.store q.name) e in
      ap (with_append_copy (with_next s o) p) (selected_alike s q g) ∙ append_copy_alike s p f (selected s q)
  act_alike (erase_site p) s e = erased_alike s p e
  act_alike (open_place i) s e = refl
  act_alike (make_list zs) s e = refl
  act_alike (save_list p) s e = set_alike s p e (ints (drop score_places s.places))
  act_alike (restore_list p) s e = ap (λ v. with_some_list (with_next s o) (some_ints v)) (selected_alike s p e) ∙ some_list_alike s (some_ints (selected s p))

  spot_ready : (x : Spot) (s : State) → SpotReady x s → SpotReady x (with_next s o)
  spot_ready (scratch h) s r = tt
  spot_ready (placed i) s r = r

  pub act_ready : (a : Act) (s : State) → act_speaks a ≡ false → ActReady a s → ActReady a (with_next s o)
  act_ready (set_spot x z) s e r = spot_ready x s r
  act_ready (increase x n) s e r = spot_ready x s r
  act_ready (decrease x n) s e r = spot_ready x s r
  act_ready (combine x op y) s e r = (spot_ready x s r.0, spot_ready y s r.1)
  act_ready (set_place i z) s e r = r
  act_ready (copy_place i j) s e r = r
  act_ready (load_place g i) s e r = r
  act_ready (keep_place i g) s e r = r
  act_ready (load_site g p) s e r = tt
  act_ready (keep_site p g) s e r = tt
  act_ready (place_to_site p i) s e r = r
  act_ready (site_to_place i p) s e r = r
  act_ready (set_site p t) s e r = tt
  act_ready (copy_site p q) s e r = tt
  act_ready (append_value_to p t) s e r = tt
  act_ready (append_site p q) s e r = tt
  act_ready (erase_site p) s e r = tt
  act_ready (open_place i) s e r = r
  act_ready (make_list zs) s e r = r
  act_ready (save_list p) s e r = tt
  act_ready (restore_list p) s e r = (r.0, r.1, selected_alike s p e ∙ r.2)

  -- ---- conditions

  check_alike : (c : Check) (s : State) → check_speaks c ≡ false → check_holds c (with_next s o) ≡ check_holds c s
  check_alike (in_range x r) s e = ap (some_is_in r) (read_alike s x)
  check_alike (compare x c y) s e = ap (λ v. both_compare c v (read (with_next s o) y)) (read_alike s x) ∙ ap (both_compare c (read s x)) (read_alike s y)
  check_alike (stands p) s e = ap is_some (selected_alike s p e)

  cond_alike : (c : Cond) (s : State) → cond_speaks c ≡ false → cond_holds c (with_next s o) ≡ cond_holds c s
  cond_alike (holds c) s e = check_alike c s e
  cond_alike (fails c) s e = ap not (check_alike c s e)

  pub conds_alike : (cs : List Cond) (s : State) → conds_speak cs ≡ false → conds_hold cs (with_next s o) ≡ conds_hold cs s
  conds_alike [] s e = refl
  conds_alike (c ∷ cs) s e =
      ap (λ b. b && conds_hold cs (with_next s o)) (cond_alike c s (neither_first (cond_speaks c) (conds_speak cs) e))
      ∙ ap (λ b. cond_holds c s && b) (conds_alike cs s (neither_second (cond_speaks c) (conds_speak cs) e))

  check_ready : (c : Check) (s : State) → CheckReady c s → CheckReady c (with_next s o)
  check_ready (in_range x r) s w = spot_ready x s w
  check_ready (compare x c y) s w = (spot_ready x s w.0, spot_ready y s w.1)
  check_ready (stands p) s w = tt

  cond_ready : (c : Cond) (s : State) → CondReady c s → CondReady c (with_next s o)
  cond_ready (holds c) s w = check_ready c s w
  cond_ready (fails c) s w = check_ready c s w

  -- what they need are places
  pub conds_ready : (cs : List Cond) (s : State) → CondsReady cs s → CondsReady cs (with_next s o)
  conds_ready [] s w = tt
  conds_ready (c ∷ cs) s w = (cond_ready c s w.0, conds_ready cs s w.1)
