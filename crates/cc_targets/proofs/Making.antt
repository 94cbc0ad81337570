-- The act that makes a number, in the spot that stands for the place.
use Rattle.std.proofs.Common.{◌≡◌, ℕ, ◌<◌, [], ◌∷◌, length, Option, Some, None, Bool, true, false, refl, sym, ap, ap₂, ◌∙◌, subst, subst₂}
use Rattle.std.specs.Prelude.{ℤ, pos, if◌then◌else◌, nat_eq, nat_lt}
use Rattle.std.specs.List.{list_all}
use Rattle.std.proofs.lemmas.Bool.{eqb-false}
use Rattle.std.proofs.lemmas.List.{length-set}
use Rattle.mc_nbt.specs.Tree.{Tree, int, string, list, compound}
use Rattle.mc_nbt.proofs.TestLemmas.{and_second}
use Rattle.mc_cmd.specs.Command.{Op, assign, add, subtract, multiply, divide, remainder, lower, raise, swap}
use Rattle.mc_cmd.specs.World.{operate, or_zero}
use Rattle.cc_line.specs.Place.{score_places, Spot, scratch, placed}
use Rattle.cc_line.specs.State.{State, Site, read, with_spot, with_place, place_at, number_at, selected, with_tree, with_copy, with_append_copy}
use Rattle.cc_line.specs.Step.{Act, set_spot, increase, decrease, combine, set_place, copy_place, load_place, keep_place, load_site, keep_site, place_to_site, site_to_place, set_site, copy_site, append_value_to, append_site, erase_site, open_place, make_list, save_list, restore_list, Step, run_act, when, stop_when, with_some_spot, combined, with_kept, with_taken, after_act, conds_hold, after_step, SpotReady, ActReady}
use Rattle.cc_unread.specs.Reads.{act_places, act_settles}
use Rattle.cc_unread.proofs.Scored.{ActSure}
use Rattle.cc_targets.specs.Later.{is_among}
use Rattle.cc_targets.specs.Move.{takes_numbers, moved_spot, moved_act, act_spares, cond_spares, step_spares}
use Rattle.cc_targets.proofs.Choices.{some_is}
use Rattle.cc_targets.proofs.Pairing.{by_place, Paired}
use Rattle.cc_targets.proofs.SpotLemmas.{given, taken, given_some, taken_score, taken_spot, other_way, read_other, read_own, spot_count, spot_keys, spot_stands}
use Rattle.cc_targets.proofs.SpotLemmas.{set_does, copy_does, from_site_does, set_ready, copy_ready, from_site_ready, combine_sure, copy_sure, set_sure, from_site_sure}
use Rattle.cc_targets.proofs.Unread.{or_first}

-- ---- as many places

combined_count : (y : Spot) (op : Op) (o : Option ℤ) (s : State) → length (combined s y op o).places ≡ length s.places
combined_count y op None s = refl
combined_count y op (Some b) s = go (operate op (or_zero (read s y)) b)
  where
    go : (o : Option ℤ) → length (with_some_spot s y o).places ≡ length s.places
    go None = refl
    go (Some z) = spot_count y z s

maybe_count : (b : Bool) (i : ℕ) (z : ℤ) (s : State) → length (if b then with_place s i z else s).places ≡ length s.places
maybe_count true i z s = length-set s.places i z
maybe_count false i z s = refl

kept_count : (i : ℕ) (o : Option ℤ) (s : State) → length (with_kept s i o).places ≡ length s.places
kept_count i (Some z) s = length-set s.places i z
kept_count i None s = go (nat_lt i score_places)
  where
    go : (b : Bool) → length (if b then s else with_place s i (pos 0)).places ≡ length s.places
    go true = refl
    go false = length-set s.places i (pos 0)

taken_count : (i : ℕ) (o : Option Tree) (s : State) → length (with_taken s i o).places ≡ length s.places
taken_count i None s = maybe_count (nat_lt i score_places) i (pos 0) s
taken_count i (Some (int z)) s = length-set s.places i z
taken_count i (Some (string b)) s = maybe_count (nat_lt i score_places) i _ s
taken_count i (Some (list ts)) s = maybe_count (nat_lt i score_places) i _ s
taken_count i (Some (compound fs)) s = maybe_count (nat_lt i score_places) i _ s

tree_count : (q : Site) (o : Option Tree) (s : State) → length (with_tree s q o).places ≡ length s.places
tree_count q None s = refl
tree_count q (Some z) s = refl

copy_count : (q : Site) (o : Option Tree) (s : State) → length (with_copy s q o).places ≡ length s.places
copy_count q None s = refl
copy_count q (Some z) s = tree_count q _ s

append_count : (q : Site) (o : Option Tree) (s : State) → length (with_append_copy s q o).places ≡ length s.places
append_count q None s = refl
append_count q (Some z) s = tree_count q _ s

act_count : (u : Spot) (a : Act) (s : State) → act_spares u a ≡ true → length (after_act a s).places ≡ length s.places
act_count u (set_spot y z) s n = spot_count y z s
act_count u (increase y k) s n = spot_count y _ s
act_count u (decrease y k) s n = spot_count y _ s
act_count u (combine y op v) s n = combined_count y op (read s v) s
act_count u (set_place i z) s n = length-set s.places i z
act_count u (copy_place i j) s n = length-set s.places i _
act_count u (load_place h i) s n = refl
act_count u (keep_place i h) s n = kept_count i (s.scores h) s
act_count u (load_site h q) s n = refl
act_count u (keep_site q h) s n = tree_count q _ s
act_count u (place_to_site q i) s n = tree_count q _ s
act_count u (site_to_place i q) s n = taken_count i (selected s q) s
act_count u (set_site q z) s n = tree_count q _ s
act_count u (copy_site q r) s n = copy_count q (selected s r) s
act_count u (append_value_to q z) s n = tree_count q _ s
act_count u (append_site q r) s n = append_count q (selected s r) s
act_count u (erase_site q) s n = tree_count q _ s
act_count u (open_place i) s n = absurd cc
act_count u (make_list zs) s n = absurd cc
act_count u (save_list q) s n = absurd cc
act_count u (restore_list q) s n = absurd cc

pub step_count : (u : Spot) (x : Step) (s : State) → step_spares u x ≡ true → length (after_step x s).places ≡ length s.places
step_count u (run_act a) s n = act_count u a s n
step_count u (when cs a) s n = go (conds_hold cs s)
  where
    go : (b : Bool) → length (if b then after_act a s else s).places ≡ length s.places
    go true = act_count u a s (and_second (list_all (cond_spares u) cs) _ n)
    go false = refl
step_count u (stop_when cs) s n = absurd cc

-- ---- the act that makes the number

module _ (t : ℕ) (u : Spot) (lt : nat_lt t score_places ≡ true) (lu : takes_numbers u ≡ true) where
  -- What an act makes in the place t: the number, and in the spot u instead of t the same one, where that stands.
  pub record Makes (sure : Bool) (a : Act) (s : State) : Type 0 where
    pub number : ℤ
    pub here : t < length s.places
    pub was : after_act a s ≡ with_place s t number
    pub is : after_act (moved_act t u a) s ≡ with_spot s u number
    pub ready : SpotReady u s → ActReady (moved_act t u a) s
    pub kept : sure ≡ true → ActSure (moved_act t u a) s

  pub record Begins (sure : Bool) (a : Act) (s : State) : Type 0 where
    pub ready : ActReady (moved_act t u a) s
    pub kept : sure ≡ true → ActSure (moved_act t u a) s
    pub paired : Paired t u (after_act a s) (after_act (moved_act t u a) s)

  made_there : (z : ℤ) (s : State) → t < length s.places → SpotReady u s → Paired t u (with_place s t z) (with_spot s u z)
  made_there z s lh lv = record {
    here = subst (λ n. t < n) (sym (length-set s.places t z)) lh;
    there = spot_stands u s (with_place s t z) (length-set s.places t z) lv;
    count = spot_count u z s ∙ sym (length-set s.places t z);
    made = read_own u z s lv ∙ sym (read_own (placed t) z s lh);
    same = λ y h k. read_other u y z s h ∙ sym (read_other (placed t) y z s (other_way y (placed t) k));
    keys = spot_keys u z s;
  }

  pub begins : (sure : Bool) (a : Act) (s : State) → Makes sure a s → SpotReady u s → Begins sure a s
  begins sure a s m lv = record { ready = m.ready lv; kept = m.kept; paired = subst₂ (Paired t u) (sym m.was) (sym m.is) (made_there m.number s m.here lv) }

  -- the place that is written is t, one that is read isn't
  moved_here : (i : ℕ) → i ≡ t → moved_spot t u (placed i) ≡ u
  moved_here i e = by_place t u i (λ k. k ≡ u) (λ f. refl) (λ f. absurd (eqb-false i t f e))

  unmoved : (j : ℕ) → is_among t (j ∷ []) ≡ false → moved_spot t u (placed j) ≡ placed j
  unmoved j h = by_place t u j (λ k. k ≡ placed j) (λ e. absurd (eqb-false j t (or_first (nat_eq j t) false h) e)) (λ e. refl)

  written_here : (i : ℕ) (z : ℤ) (s : State) → i ≡ t → with_place s i z ≡ with_place s t z
  written_here i z s e = ap (λ k. with_place s k z) e

  stands_here : (i : ℕ) (s : State) → i ≡ t → SpotReady u s → SpotReady (moved_spot t u (placed i)) s
  stands_here i s e v = subst (λ k. SpotReady k s) (sym (moved_here i e)) v

  -- a copy of a spot, whose number is this one
  copy_makes : (i : ℕ) (x y : Spot) (z : ℤ) (s : State) → i ≡ t → x ≡ y → read s y ≡ Some z → given s (moved_spot t u (placed i)) (read s x) ≡ with_spot s u z
  copy_makes i x y z s e f r = ap₂ (given s) (moved_here i e) (ap (read s) f ∙ r) ∙ given_some u z s

  -- a place that is surely written where it is known that scratch scores are set
  surely : (sure : Bool) (i : ℕ) → (if sure then Some i else None) ≡ Some t → (sure ≡ true) × (i ≡ t)
  surely true i e = (refl, some_is i t e)
  surely false i e = absurd cc

  unwritten : (sure : Bool) → (if sure then None else None) ≡ Some t → ⊥
  unwritten true e = absurd cc
  unwritten false e = absurd cc

  assigned_makes : (i : ℕ) (x y : Spot) (z : ℤ) (s : State) → i ≡ t → x ≡ y → read s y ≡ Some z → combined s (moved_spot t u (placed i)) assign (read s x) ≡ with_spot s u z
  assigned_makes i x y z s e f r = ap₂ (λ k o. combined s k assign o) (moved_here i e) (ap (read s) f ∙ r)

  taken_makes : (i : ℕ) (q : Site) (s : State) → i ≡ t → taken s (moved_spot t u (placed i)) (selected s q) ≡ with_spot s u (number_at (selected s q))
  taken_makes i q s e = ap (λ k. taken s k (selected s q)) (moved_here i e) ∙ taken_spot u (selected s q) s lu

  pub makes : (sure : Bool) (a : Act) (s : State) → act_settles sure a ≡ Some t → is_among t (act_places a) ≡ false → ActReady a s → (sure ≡ true → ActSure a s) → Makes sure a s
  makes sure (set_spot (placed i) z) s e h w k =
      let f = some_is i t e in
      record {
        number = z;
        here = subst (λ n. n < length s.places) f w;
        was = written_here i z s f;
        is = ap (λ x. with_spot s x z) (moved_here i f);
        ready = λ v. stands_here i s f v;
        kept = λ c. tt;
      }
  makes sure (combine (placed i) assign (placed j)) s e h w k =
      let f = some_is i t e in
      record {
        number = place_at s j;
        here = subst (λ n. n < length s.places) f w.0;
        was = written_here i (place_at s j) s f;
        is = assigned_makes i (moved_spot t u (placed j)) (placed j) (place_at s j) s f (unmoved j h) refl;
        ready = λ v. (stands_here i s f v, subst (λ x. SpotReady x s) (sym (unmoved j h)) w.1);
        kept = λ c. combine_sure (moved_spot t u (placed i)) assign (moved_spot t u (placed j)) s (λ o. (place_at s j, ap (read s) (unmoved j h)));
      }
  makes sure (combine (placed i) assign (scratch g)) s e h w k =
      let y = surely sure i e in
      let z = k y.0 refl in
      record {
        number = z.0;
        here = subst (λ n. n < length s.places) y.1 w.0;
        was = ap (combined s (placed i) assign) z.1 ∙ written_here i z.0 s y.1;
        is = assigned_makes i (scratch g) (scratch g) z.0 s y.1 refl z.1;
        ready = λ v. (stands_here i s y.1 v, tt);
        kept = λ c. combine_sure (moved_spot t u (placed i)) assign (scratch g) s (λ o. z);
      }
  makes sure (set_place i z) s e h w k =
      let f = some_is i t e in
      record {
        number = z;
        here = subst (λ n. n < length s.places) f w;
        was = written_here i z s f;
        is = set_does (moved_spot t u (placed i)) z s ∙ ap (λ x. with_spot s x z) (moved_here i f);
        ready = λ v. set_ready (moved_spot t u (placed i)) z s (stands_here i s f v);
        kept = λ c. set_sure (moved_spot t u (placed i)) z s;
      }
  makes sure (copy_place i j) s e h w k =
      let f = some_is i t e in
      record {
        number = place_at s j;
        here = subst (λ n. n < length s.places) f w.0;
        was = written_here i (place_at s j) s f;
        is = copy_does (moved_spot t u (placed i)) (moved_spot t u (placed j)) s ∙ copy_makes i (moved_spot t u (placed j)) (placed j) (place_at s j) s f (unmoved j h) refl;
        ready = λ v. copy_ready (moved_spot t u (placed i)) (moved_spot t u (placed j)) s (stands_here i s f v) (subst (λ x. SpotReady x s) (sym (unmoved j h)) w.1);
        kept = λ c. copy_sure (moved_spot t u (placed i)) (moved_spot t u (placed j)) s (place_at s j, ap (read s) (unmoved j h));
      }
  makes sure (keep_place i g) s e h w k =
      let y = surely sure i e in
      let z = k y.0 in
      record {
        number = z.0;
        here = subst (λ n. n < length s.places) y.1 w;
        was = ap (with_kept s i) z.1 ∙ written_here i z.0 s y.1;
        is = copy_does (moved_spot t u (placed i)) (scratch g) s ∙ copy_makes i (scratch g) (scratch g) z.0 s y.1 refl z.1;
        ready = λ v. copy_ready (moved_spot t u (placed i)) (scratch g) s (stands_here i s y.1 v) tt;
        kept = λ c. copy_sure (moved_spot t u (placed i)) (scratch g) s z;
      }
  makes sure (site_to_place i q) s e h w k =
      let f = some_is i t e in
      record {
        number = number_at (selected s q);
        here = subst (λ n. n < length s.places) f w;
        was = taken_score i (selected s q) s (ap (λ n. nat_lt n score_places) f ∙ lt) ∙ written_here i (number_at (selected s q)) s f;
        is = from_site_does (moved_spot t u (placed i)) q s ∙ taken_makes i q s f;
        ready = λ v. from_site_ready (moved_spot t u (placed i)) q s (stands_here i s f v);
        kept = λ c. from_site_sure (moved_spot t u (placed i)) q s;
      }
  makes sure (set_spot (scratch g) z) s e h w k = absurd cc
  makes sure (combine (scratch g) assign (placed j)) s e h w k = absurd cc
  makes sure (combine (scratch f) assign (scratch g)) s e h w k = absurd (unwritten sure e)
  makes sure (combine y add x) s e h w k = absurd cc
  makes sure (combine y subtract x) s e h w k = absurd cc
  makes sure (combine y multiply x) s e h w k = absurd cc
  makes sure (combine y divide x) s e h w k = absurd cc
  makes sure (combine y remainder x) s e h w k = absurd cc
  makes sure (combine y lower x) s e h w k = absurd cc
  makes sure (combine y raise x) s e h w k = absurd cc
  makes sure (combine y swap x) s e h w k = absurd cc
  makes sure (increase y n) s e h w k = absurd cc
  makes sure (decrease y n) s e h w k = absurd cc
  makes sure (load_place g i) s e h w k = absurd cc
  makes sure (load_site g q) s e h w k = absurd cc
  makes sure (keep_site q g) s e h w k = absurd cc
  makes sure (place_to_site q i) s e h w k = absurd cc
  makes sure (set_site q z) s e h w k = absurd cc
  makes sure (copy_site q r) s e h w k = absurd cc
  makes sure (append_value_to q z) s e h w k = absurd cc
  makes sure (append_site q r) s e h w k = absurd cc
  makes sure (erase_site q) s e h w k = absurd cc
  makes sure (open_place i) s e h w k = absurd cc
  makes sure (make_list zs) s e h w k = absurd cc
  makes sure (save_list q) s e h w k = absurd cc
  makes sure (restore_list q) s e h w k = absurd cc
