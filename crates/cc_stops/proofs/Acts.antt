-- What harmless acts do: they find their places, and what differs then is unseen.
use Rattle.std.proofs.Common.{◌≡◌, ℕ, ◌<◌, ◌≤◌, List, [], ◌∷◌, length, Option, Some, None, Bool, true, false, refl, sym, ap, ◌∙◌, subst, arith}
use Rattle.std.specs.Prelude.{ℤ, pos, ◌+ℤ◌, ◌-ℤ◌, ◌&&◌, if◌then◌else◌, nat_lt}
use Rattle.std.specs.List.{list_all}
use Rattle.std.specs.Str.{bytes_eq}
use Rattle.std.proofs.lemmas.Bool.{ltb-true}
use Rattle.std.proofs.lemmas.List.{length-set}
use Rattle.std.proofs.lemmas.Slice.Eq.{bytes_eq-Decides}
use Rattle.mc_nbt.specs.Tree.{Tree, int, string, list, compound}
use Rattle.mc_cmd.specs.Command.{Op}
use Rattle.mc_cmd.specs.Form.{Text}
use Rattle.mc_cmd.specs.World.{operate, or_zero, wrapped}
use Rattle.mc_cmd.proofs.FormLemmas.{and_first, and_second}
use Rattle.cc_line.specs.Sight.{Store, same_store}
use Rattle.cc_line.specs.Key.{is_work}
use Rattle.cc_line.specs.Place.{score_places, Spot, scratch, placed}
use Rattle.cc_line.specs.State.{State, Site, read, with_spot, with_place, with_score, number_at, selected, place_at, with_tree, with_copy, with_append_copy}
use Rattle.cc_line.specs.Step.{Act, set_spot, increase, decrease, combine, set_place, copy_place, load_place, keep_place, load_site, keep_site, place_to_site, site_to_place, set_site, copy_site, append_value_to, append_site, erase_site, open_place, make_list, save_list, restore_list, Check, in_range, compare, stands, Cond, holds, fails, with_some_spot, combined, with_kept, with_taken, after_act, SpotReady, ActReady, CheckReady, CondReady, CondsReady}
use Rattle.cc_line.proofs.CoreLemmas.{work_apart}
use Rattle.cc_line.proofs.SightLemmas.{store_same}
use Rattle.cc_stops.specs.Harmless.{is_unseen, spot_stands, spot_is_unseen, act_is_harmless, check_stands, cond_stands}
use Rattle.cc_stops.specs.Law.{DifferUnseen}
use Rattle.cc_stops.proofs.Wide.{IsWide}

-- the second state differs unseen, and has all these places
pub record Calm (s t : State) : Type 0 where
  pub unseen : DifferUnseen s t
  pub wide : IsWide t

pub calm_none : (s : State) → IsWide s → Calm s s
calm_none s w = record { unseen = record { keys = λ r k e. refl; scores = λ h e. refl }; wide = w }

pub calm_then : (s t u : State) → Calm s t → DifferUnseen t u → DifferUnseen s u
calm_then s t u a b = record { keys = λ r k e. b.keys r k e ∙ a.unseen.keys r k e; scores = λ h e. b.scores h e ∙ a.unseen.scores h e }

-- ---- writes

calm_place : (s : State) (i : ℕ) (z : ℤ) → IsWide s → Calm s (with_place s i z)
calm_place s i z w = record {
  unseen = record { keys = λ r k e. refl; scores = λ h e. refl };
  wide = subst (λ n. score_places ≤ n) (sym (length-set s.places i z)) w;
}

calm_score : (s : State) (h : Text) (z : ℤ) → IsWide s → is_work h ≡ true → Calm s (with_score s h z)
calm_score s h z w k = record {
  unseen = record { keys = λ r n e. refl; scores = λ g e. ap (λ b. if b then Some z else s.scores g) (work_apart h g k e) };
  wide = w;
}

calm_spot : (s : State) (x : Spot) (z : ℤ) → IsWide s → spot_is_unseen x ≡ true → Calm s (with_spot s x z)
calm_spot s (scratch h) z w k = calm_score s h z w k
calm_spot s (placed i) z w k = calm_place s i z w

calm_tree : (s : State) (p : Site) (o : Option Tree) → IsWide s → is_unseen p.store p.name ≡ true → Calm s (with_tree s p o)
calm_tree s p None w u = calm_none s w
calm_tree s p (Some t) w u = record {
  unseen = record { keys = λ q j e. at q j e (same_store p.store q && bytes_eq p.name j) refl; scores = λ h e. refl };
  wide = w;
}
  where
    at : (q : Store) (j : Text) → is_unseen q j ≡ false → (b : Bool) → same_store p.store q && bytes_eq p.name j ≡ b → (if b then Some t else s.keys q j) ≡ s.keys q j
    at q j e true f =
        let x : p.store ≡ q = store_same p.store q (and_first _ _ f) in
        let y : p.name ≡ j = (bytes_eq-Decides p.name j).0 (and_second (same_store p.store q) _ f) in
        absurd (let v : true ≡ false = sym u ∙ ap (λ r. is_unseen r p.name) x ∙ ap (is_unseen q) y ∙ e in cc)
    at q j e false f = refl

calm_copy : (s : State) (p : Site) (o : Option Tree) → IsWide s → is_unseen p.store p.name ≡ true → Calm s (with_copy s p o)
calm_copy s p None w u = calm_none s w
calm_copy s p (Some t) w u = calm_tree s p _ w u

calm_append : (s : State) (p : Site) (o : Option Tree) → IsWide s → is_unseen p.store p.name ≡ true → Calm s (with_append_copy s p o)
calm_append s p None w u = calm_none s w
calm_append s p (Some t) w u = calm_tree s p _ w u

calm_some_spot : (s : State) (x : Spot) (o : Option ℤ) → IsWide s → spot_is_unseen x ≡ true → Calm s (with_some_spot s x o)
calm_some_spot s x None w k = calm_none s w
calm_some_spot s x (Some z) w k = calm_spot s x z w k

calm_combined : (s : State) (x : Spot) (op : Op) (o : Option ℤ) → IsWide s → spot_is_unseen x ≡ true → Calm s (combined s x op o)
calm_combined s x op None w k = calm_none s w
calm_combined s x op (Some b) w k = calm_some_spot s x (operate op (or_zero (read s x)) b) w k

calm_if : (b : Bool) (s t u : State) → Calm s t → Calm s u → Calm s (if b then t else u)
calm_if true s t u x y = x
calm_if false s t u x y = y

calm_kept : (s : State) (i : ℕ) (o : Option ℤ) → IsWide s → Calm s (with_kept s i o)
calm_kept s i None w = calm_if (nat_lt i score_places) s s (with_place s i (pos 0)) (calm_none s w) (calm_place s i (pos 0) w)
calm_kept s i (Some z) w = calm_place s i z w

calm_taken : (s : State) (i : ℕ) (o : Option Tree) → IsWide s → Calm s (with_taken s i o)
calm_taken s i None w = calm_if (nat_lt i score_places) s (with_place s i (pos 0)) s (calm_place s i (pos 0) w) (calm_none s w)
calm_taken s i (Some (int z)) w = calm_place s i z w
calm_taken s i (Some (string b)) w = calm_if (nat_lt i score_places) s (with_place s i (number_at (Some (string b)))) s (calm_place s i _ w) (calm_none s w)
calm_taken s i (Some (list ts)) w = calm_if (nat_lt i score_places) s (with_place s i (number_at (Some (list ts)))) s (calm_place s i _ w) (calm_none s w)
calm_taken s i (Some (compound fs)) w = calm_if (nat_lt i score_places) s (with_place s i (number_at (Some (compound fs)))) s (calm_place s i _ w) (calm_none s w)

-- ---- acts

pub act_calm : (a : Act) (s : State) → IsWide s → act_is_harmless a ≡ true → Calm s (after_act a s)
act_calm (set_spot x z) s w h = calm_spot s x z w h
act_calm (increase x n) s w h = calm_spot s x (wrapped (or_zero (read s x) +ℤ pos n)) w h
act_calm (decrease x n) s w h = calm_spot s x (wrapped (or_zero (read s x) -ℤ pos n)) w h
act_calm (combine x op y) s w h = calm_combined s x op (read s y) w (and_first (spot_is_unseen x) _ h)
act_calm (set_place i z) s w h = calm_place s i z w
act_calm (copy_place i j) s w h = calm_place s i (place_at s j) w
act_calm (load_place g i) s w h = calm_score s g (place_at s i) w (and_first (is_work g) _ h)
act_calm (keep_place i g) s w h = calm_kept s i (s.scores g) w
act_calm (load_site g p) s w h = calm_score s g (number_at (selected s p)) w h
act_calm (keep_site p g) s w h = calm_tree s p _ w h
act_calm (place_to_site p i) s w h = calm_tree s p _ w (and_first (is_unseen p.store p.name) _ h)
act_calm (site_to_place i p) s w h = calm_taken s i (selected s p) w
act_calm (set_site p t) s w h = calm_tree s p _ w h
act_calm (copy_site p q) s w h = calm_copy s p (selected s q) w h
act_calm (append_value_to p t) s w h = calm_tree s p _ w h
act_calm (append_site p q) s w h = calm_append s p (selected s q) w h
act_calm (erase_site p) s w h = calm_tree s p _ w h
act_calm (open_place i) s w h = absurd cc
act_calm (make_list zs) s w h = absurd cc
act_calm (save_list p) s w h = absurd cc
act_calm (restore_list p) s w h = absurd cc

-- ---- what acts and conditions need

score_stands : (i : ℕ) (s : State) → IsWide s → nat_lt i score_places ≡ true → i < length s.places
score_stands i s w e =
    let l : i < score_places = ltb-true i score_places e in
    omega arith

spot_ready : (x : Spot) (s : State) → IsWide s → spot_stands x ≡ true → SpotReady x s
spot_ready (scratch h) s w e = tt
spot_ready (placed i) s w e = score_stands i s w e

unseen_ready : (x : Spot) (s : State) → IsWide s → spot_is_unseen x ≡ true → SpotReady x s
unseen_ready (scratch h) s w e = tt
unseen_ready (placed i) s w e = score_stands i s w e

pub act_ready : (a : Act) (s : State) → IsWide s → act_is_harmless a ≡ true → ActReady a s
act_ready (set_spot x z) s w h = unseen_ready x s w h
act_ready (increase x n) s w h = unseen_ready x s w h
act_ready (decrease x n) s w h = unseen_ready x s w h
act_ready (combine x op y) s w h = (unseen_ready x s w (and_first (spot_is_unseen x) _ h), spot_ready y s w (and_second (spot_is_unseen x) _ h))
act_ready (set_place i z) s w h = score_stands i s w h
act_ready (copy_place i j) s w h = (score_stands i s w (and_first (nat_lt i score_places) _ h), score_stands j s w (and_second (nat_lt i score_places) _ h))
act_ready (load_place g i) s w h = score_stands i s w (and_second (is_work g) _ h)
act_ready (keep_place i g) s w h = score_stands i s w h
act_ready (load_site g p) s w h = tt
act_ready (keep_site p g) s w h = tt
act_ready (place_to_site p i) s w h = score_stands i s w (and_second (is_unseen p.store p.name) _ h)
act_ready (site_to_place i p) s w h = score_stands i s w h
act_ready (set_site p t) s w h = tt
act_ready (copy_site p q) s w h = tt
act_ready (append_value_to p t) s w h = tt
act_ready (append_site p q) s w h = tt
act_ready (erase_site p) s w h = tt
act_ready (open_place i) s w h = absurd cc
act_ready (make_list zs) s w h = absurd cc
act_ready (save_list p) s w h = absurd cc
act_ready (restore_list p) s w h = absurd cc

check_ready : (c : Check) (s : State) → IsWide s → check_stands c ≡ true → CheckReady c s
check_ready (in_range x r) s w h = spot_ready x s w h
check_ready (compare x c y) s w h = (spot_ready x s w (and_first (spot_stands x) _ h), spot_ready y s w (and_second (spot_stands x) _ h))
check_ready (stands p) s w h = tt

cond_ready : (c : Cond) (s : State) → IsWide s → cond_stands c ≡ true → CondReady c s
cond_ready (holds c) s w h = check_ready c s w h
cond_ready (fails c) s w h = check_ready c s w h

pub conds_ready : (cs : List Cond) (s : State) → IsWide s → list_all cond_stands cs ≡ true → CondsReady cs s
conds_ready [] s w h = tt
conds_ready (c ∷ cs) s w h = (cond_ready c s w (and_first (cond_stands c) _ h), conds_ready cs s w (and_second (cond_stands c) _ h))
