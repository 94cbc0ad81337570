-- Shifts and rotations do what they are to do.
use Rattle.std.proofs.Common.{◌≡◌, ℕ, suc, ◌<◌, List, [], ◌∷◌, length, Option, Some, true, false, refl, sym, ap, ap₂, ◌∙◌, subst, arith}
use Rattle.std.specs.Prelude.{ℤ, pos, codes, option_and_then}
use Rattle.std.proofs.lemmas.Bool.{lt-ltb}
use Rattle.mc_nbt.specs.Tree.{Tree, int, compound, no_fields, key, place, select}
use Rattle.mc_nbt.specs.Word.{is_int}
use Rattle.mc_cmd.specs.Form.{Text}
use Rattle.mc_cmd.specs.World.{or_zero}
use Rattle.cc_line.specs.declared.table.Table.{Table}
use Rattle.cc_line.specs.Sight.{in_rest}
use Rattle.cc_line.specs.Key.{key_choice, is_work_key}
use Rattle.cc_line.specs.Standing.{Standing}
use Rattle.cc_line.specs.State.{State, Site, number_at, set_under, within_key, place_at, with_place, with_score, with_set}
use Rattle.cc_line.specs.Table.{table_tree}
use Rattle.cc_line.specs.Step.{Step, step_weight, flow}
use Rattle.cc_line.specs.Core.{Straight}
use Rattle.cc_line.specs.Item.{step_item, fill_item, Items, first, join, steps_items, filled_steps}
use Rattle.cc_line.specs.Routine.{Gives}
use Rattle.cc_line.specs.Within.{steps_within}
use Rattle.cc_line.proofs.RunLemmas.{Leads, leads_first, leads_join, straight_leads}
use Rattle.cc_line.proofs.SettleLemmas.{settled, settled_straight, works, pinned}
use Rattle.cc_line.proofs.StandingLemmas.{with_constants, constants_set}
use Rattle.cc_bits.specs.Line.{choice_site, loads, one_step}
use Rattle.cc_bits.specs.Shifting.{look_row}
use Rattle.cc_bits.proofs.LookLemmas.{Near, near_then, near_settled, near_score, near_standing, near_tree, final_straight, leads_fill}
use Rattle.cc_bits64.specs.Shifting.{tell_count, looked_items, both_kept, shift_items}
use Rattle.cc_bits64.proofs.Places.{both_kept_lead, pair_given}

-- three numbers in the scores
abbrev pub three : State → ℤ → ℤ → ℤ → State
three s x y z = with_score (with_score (with_score s (codes "#a") x) (codes "#b") y) (codes "#k") z

near_three : (s : State) (x y z : ℤ) → Near s (three s x y z)
near_three s x y z =
    let one : State = with_score s (codes "#a") x in
    let two : State = with_score one (codes "#b") y in
    near_then s one (three s x y z) (near_score s (codes "#a") x refl) (near_then one two (three s x y z) (near_score one (codes "#b") y refl) (near_score two (codes "#k") z refl))

-- ---- the count is told, and its two numbers are looked up

abbrev count_site : Site
count_site = record { store = in_rest; name = key_choice; parts = key (codes "k") ∷ [] }

abbrev pub told : State → ℤ → State
told u q = with_set (with_set u choice_site (compound no_fields)) count_site (int q)

tell_straight : (u : State) (q : ℤ) → u.scores (codes "#k") ≡ Some q → Straight tell_count u (told u q)
tell_straight u q e = subst (Straight tell_count u) (ap (λ o. told u (or_zero o)) e) (final_straight tell_count u refl refl)

near_set : (s : State) (p : Site) (t : Tree) → is_work_key p.store p.name ≡ true → Near s (with_set s p t)
near_set s p t k = near_tree s p (option_and_then within_key (set_under (s.keys p.store p.name) p.parts t)) k

near_told : (u : State) (q : ℤ) → Near u (told u q)
near_told u q =
    let v : State = with_set u choice_site (compound no_fields) in
    near_then u v (told u q) (near_set u choice_site (compound no_fields) refl) (near_set v count_site (int q) refl)

abbrev pub looked : State → ℤ → ℤ → ℤ → State
looked u q v w = with_score (with_score (told u q) (codes "#p") v) (codes "#q") w

near_looked : (u : State) (q : ℤ) (v w : ℤ) → Near u (looked u q v w)
near_looked u q v w =
    let p : State = with_score (told u q) (codes "#p") v in
    near_then u (told u q) (looked u q v w) (near_told u q)
    (near_then (told u q) p (looked u q v w) (near_score (told u q) (codes "#p") v refl) (near_score p (codes "#q") w refl))

-- a standing table, under its key
abbrev pub Stands : Text → Table → Type 0
Stands k t = (u : State) (q : ℤ) → Standing false u → (told u q).keys in_rest k ≡ Some (table_tree t)

abbrev HasRow : Table → ℕ → ℤ → ℤ → Type 0
HasRow t r v w = (select (table_tree t) (place (pos r) ∷ place (pos 0) ∷ []) ≡ Some (int v)) × (select (table_tree t) (place (pos r) ∷ place (pos 1) ∷ []) ≡ Some (int w))

row_looked : (u : State) (r : ℕ) (k : Text) (t : Table) (v w : ℤ) → Standing false u → Stands k t → HasRow t r v w → Straight (filled_steps choice_site (look_row k) (told u (pos r))) (told u (pos r)) (looked u (pos r) v w)
row_looked u r k t v w st stands row =
    let b : State = told u (pos r) in
    let found : Option Tree → State = λ o. looked u (pos r) (number_at (option_and_then (λ x. select x (place (pos r) ∷ place (pos 0) ∷ [])) o)) (number_at (option_and_then (λ x. select x (place (pos r) ∷ place (pos 1) ∷ [])) o)) in
    subst (Straight (filled_steps choice_site (look_row k) b) b)
    (ap found (stands u (pos r) st) ∙ ap₂ (λ o p. looked u (pos r) (number_at o) (number_at p)) row.0 row.1)
    (final_straight (filled_steps choice_site (look_row k) b) b refl refl)

looked_lead : (f k : Text) (t : Table) (xs : List Step) (u z : State) (r : ℕ) (v w : ℤ) → Standing false u → Stands k t → r < 32 → u.scores (codes "#k") ≡ Some (pos r) → HasRow t r v w → Straight xs (looked u (pos r) v w) z → Leads (looked_items f k xs) u z
looked_lead f k t xs u z r v w st stands lt e row g =
    let told_int : is_int (pos r) ≡ true = lt-ltb r 2147483648 (omega arith) in
    let b : State = told u (pos r) in
    let l : State = looked u (pos r) v w in
    leads_join (steps_items tell_count) (first (fill_item f choice_site (look_row k)) (steps_items xs)) u b z
    (straight_leads tell_count u b (tell_straight u (pos r) e))
    (leads_fill f choice_site (look_row k) (steps_items xs) b l z (pos r, refl, told_int, (pos r, refl, told_int, tt)) (row_looked u r k t v w st stands row) (straight_leads xs l z g))

-- ---- from the places and back

three_lead : (a : ℕ) (xs : Items) (s t : State) (x y z : ℤ) → place_at s a ≡ x → place_at s (suc a) ≡ y → place_at s (suc (suc a)) ≡ z → suc (suc a) < length s.places → Leads xs (three s x y z) t
    → Leads (one_step (loads (codes "#a") a) (one_step (loads (codes "#b") (suc a)) (one_step (loads (codes "#k") (suc (suc a))) xs))) s t
three_lead a xs s t x y z ea eb ek room l =
    let one : State = with_score s (codes "#a") x in
    let two : State = with_score one (codes "#b") y in
    let la : Step = loads (codes "#a") a in
    let lb : Step = loads (codes "#b") (suc a) in
    let lk : Step = loads (codes "#k") (suc (suc a)) in
    leads_first (step_item la) s (one_step lb (one_step lk xs)) one t (step_weight la) (omega arith) (ap (λ q. flow false (with_score s (codes "#a") q) (step_weight la)) ea)
    (leads_first (step_item lb) one (one_step lk xs) two t (step_weight lb) (omega arith) (ap (λ q. flow false (with_score one (codes "#b") q) (step_weight lb)) eb)
    (leads_first (step_item lk) two xs (three s x y z) t (step_weight lk) room (ap (λ q. flow false (with_score two (codes "#k") q) (step_weight lk)) ek) l))

-- the steps before and behind the look-up, by what they leave of the three numbers
module _ (f k : Text) (t : Table) (before after : List Step) (a : ℕ) (s : State) (x y z : ℤ) (r : ℕ) (v w : ℤ) where
  abbrev begun : State
  begun = settled before (three (with_constants s) x y z)

  abbrev ended : State
  ended = settled after (looked begun (pos r) v w)

  pub shift_gives : (low high : ℤ) → Standing false s → Stands k t → place_at s a ≡ x → place_at s (suc a) ≡ y → place_at s (suc (suc a)) ≡ z → suc (suc a) < length s.places → r < 32 → HasRow t r v w
      → steps_within 0 before ≡ true → works before ≡ true → pinned before (three (with_constants s) x y z) ≡ true → begun.scores (codes "#k") ≡ Some (pos r)
      → steps_within 0 after ≡ true → works after ≡ true → pinned after (looked begun (pos r) v w) ≡ true → ended.scores (codes "#a") ≡ Some low → ended.scores (codes "#b") ≡ Some high
      → Gives (shift_items f k before after a) s a (low ∷ (high ∷ []))
  shift_gives low high st stands ea eb ek room lt row w1 k1 p1 count w2 k2 p2 el eh =
      let s' : State = with_constants s in
      let u : State = begun in
      let l : State = looked begun (pos r) v w in
      let e : State = ended in
      let n1 : Near s' u = near_then s' (three s' x y z) u (near_three s' x y z) (near_settled before (three s' x y z) k1) in
      let n2 : Near u e = near_then u l e (near_looked u (pos r) v w) (near_settled after l k2) in
      let near : Near s' e = near_then s' u e n1 n2 in
      let su : Standing false u = near_standing s' u n1 (subst (λ q. Standing false q) (sym (constants_set s st)) st) in
      let end : State = with_place (with_place e a low) (suc a) high in
      let few : suc a < length s.places = omega arith in
      subst (λ q. Gives (shift_items f k before after a) q a (low ∷ (high ∷ []))) (constants_set s st)
      (pair_given (shift_items f k before after a) s' e a low high near
      (three_lead a (join (steps_items before) (join (looked_items f k after) (both_kept a))) s' end x y z ea eb ek room
      (leads_join (steps_items before) (join (looked_items f k after) (both_kept a)) (three s' x y z) u end
      (straight_leads before (three s' x y z) u (settled_straight before (three s' x y z) w1 p1))
      (leads_join (looked_items f k after) (both_kept a) u e end
      (looked_lead f k t after u e r v w su stands lt count row (settled_straight after l w2 p2))
      (both_kept_lead e a (subst (λ ps. suc a < length ps) (sym near.places) few) (codes "#a") (codes "#b") low high el eh)))))
