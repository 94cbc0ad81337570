-- An address from the window's beginning on.
use Rattle.std.proofs.Common.{◌≡◌, ℕ, ◌<◌, List, [], ◌∷◌, length, Some, Bool, true, false, refl, sym, ap, ◌∙◌, subst}
use Rattle.std.specs.Prelude.{ℤ, pos, negsuc, ◌+ℤ◌, ◌-ℤ◌, ◌&&◌, not, nat_le, nat_eq, if◌then◌else◌, codes}
use Rattle.mc_nbt.specs.Tree.{Tree}
use Rattle.mc_cmd.specs.Command.{subtract, divide, remainder, between}
use Rattle.mc_cmd.specs.World.{wrapped, or_zero, some_is_in}
use Rattle.cc_line.specs.State.{State, place_at, with_score}
use Rattle.cc_line.specs.Step.{set_spot, increase, decrease, load_place, run_act, when, conds_hold}
use Rattle.cc_line.specs.Item.{step_item, no_more, first, steps_items}
use Rattle.cc_line.proofs.RunLemmas.{Leads, leads_none, leads_as}
use Rattle.cc_line.proofs.SettleLemmas.{score_kept}
use Rattle.cc_line.specs.Key.{score_window, score_four}
use Rattle.cc_mem.specs.Address.{at_i, most_near, is_told, add_steps, take_steps, return_steps, outside, far_steps, split_steps, start_steps}
use Rattle.cc_mem.proofs.AddressNumbers.{added, taken, is_low, low_or, counted, told_part, told_some, from_base, word_of, byte_of}
use Rattle.cc_mem.proofs.Stepping.{act_leads, when_leads, unless_leads, combine_leads, assign_leads, steps_lead}
use Rattle.cc_mem.proofs.Holding.{Holding, holding_work}

module _ (s : State) (z : ℤ) (e : s.scores (codes "#i") ≡ Some z) where
  same : s ≡ with_score s (codes "#i") z
  same = sym (score_kept s (codes "#i") z e)

  -- another number, where the address leads nowhere
  pub low_leads : (y : ℤ) → Leads (first (step_item (when outside (set_spot at_i y))) no_more) s (with_score s (codes "#i") (low_or y z))
  low_leads y = by (is_low z) refl
    where
      held : conds_hold outside s ≡ not (is_low z) && true
      held = ap (λ o. not (some_is_in (between (pos 0) (pos 16777215)) o) && true) e

      by : (b : Bool) → is_low z ≡ b → Leads (first (step_item (when outside (set_spot at_i y))) no_more) s (with_score s (codes "#i") (if b then z else y))
      by true f =
          unless_leads outside (set_spot at_i y) no_more s (with_score s (codes "#i") z) (tt, tt) (held ∙ ap (λ b. not b && true) f)
          (leads_as no_more s s (with_score s (codes "#i") z) same (leads_none s))
      by false f =
          when_leads outside (set_spot at_i y) no_more s (with_score s (codes "#i") y) (with_score s (codes "#i") y) (tt, tt) (held ∙ ap (λ b. not b && true) f) tt refl
          (leads_none (with_score s (codes "#i") y))

  pub far_leads : (offset : ℕ) → Leads (steps_items (far_steps offset)) s (with_score s (codes "#i") (counted offset z))
  far_leads offset = by (nat_le offset most_near)
    where
      by : (b : Bool) → Leads (steps_items (if b then [] else when outside (set_spot at_i (negsuc 33554431)) ∷ [])) s (with_score s (codes "#i") (if b then z else low_or (negsuc 33554431) z))
      by true = leads_as no_more s s (with_score s (codes "#i") z) same (leads_none s)
      by false = low_leads (negsuc 33554431)

  -- an offset more
  pub add_leads : (offset : ℕ) → Leads (steps_items (add_steps offset)) s (with_score s (codes "#i") (added z offset))
  add_leads offset = by (nat_eq offset 0)
    where
      t : State
      t = with_score s (codes "#i") (wrapped (z +ℤ pos offset))

      by : (b : Bool) → Leads (steps_items (if b then [] else run_act (increase at_i offset) ∷ [])) s (with_score s (codes "#i") (if b then z else wrapped (z +ℤ pos offset)))
      by true = leads_as no_more s s (with_score s (codes "#i") z) same (leads_none s)
      by false = act_leads (increase at_i offset) no_more s t t tt (ap (λ o. with_score s (codes "#i") (wrapped (or_zero o +ℤ pos offset))) e) (leads_none t)

  -- a near one less, and more
  pub take_leads : (offset : ℕ) → Leads (steps_items (take_steps offset)) s (with_score s (codes "#i") (taken z (told_part offset)))
  take_leads offset = by (is_told offset) refl
    where
      t : State
      t = with_score s (codes "#i") (wrapped (z -ℤ pos offset))

      by : (b : Bool) → is_told offset ≡ b → Leads (steps_items (if b then run_act (decrease at_i offset) ∷ [] else [])) s (with_score s (codes "#i") (taken z (if b then offset else 0)))
      by false f = leads_as no_more s s (with_score s (codes "#i") z) same (leads_none s)
      by true f =
          subst (λ b. Leads (steps_items (run_act (decrease at_i offset) ∷ [])) s (with_score s (codes "#i") (if b then z else wrapped (z -ℤ pos offset)))) (sym (told_some offset f))
          (act_leads (decrease at_i offset) no_more s t t tt (ap (λ o. with_score s (codes "#i") (wrapped (or_zero o -ℤ pos offset))) e) (leads_none t))

  pub more_leads : (offset : ℕ) → Leads (steps_items (return_steps offset)) s (with_score s (codes "#i") (added z (told_part offset)))
  more_leads offset = by (is_told offset) refl
    where
      t : State
      t = with_score s (codes "#i") (wrapped (z +ℤ pos offset))

      by : (b : Bool) → is_told offset ≡ b → Leads (steps_items (if b then run_act (increase at_i offset) ∷ [] else [])) s (with_score s (codes "#i") (added z (if b then offset else 0)))
      by false f = leads_as no_more s s (with_score s (codes "#i") z) same (leads_none s)
      by true f =
          subst (λ b. Leads (steps_items (run_act (increase at_i offset) ∷ [])) s (with_score s (codes "#i") (if b then z else wrapped (z +ℤ pos offset)))) (sym (told_some offset f))
          (act_leads (increase at_i offset) no_more s t t tt (ap (λ o. with_score s (codes "#i") (wrapped (or_zero o +ℤ pos offset))) e) (leads_none t))

-- the word and its byte
abbrev pub split : State → ℤ → State
split s x = with_score (with_score (with_score s (codes "#r") x) (codes "#r") (byte_of x)) (codes "#i") (word_of x)

pub split_leads : (s : State) (x : ℤ) → s.scores (codes "#i") ≡ Some x → s.scores score_four ≡ Some (pos 4) → Leads (steps_items split_steps) s (split s x)
split_leads s x e f =
    let t : State = with_score s (codes "#r") x in
    let u : State = with_score t (codes "#r") (byte_of x) in
    assign_leads (codes "#r") (codes "#i") x _ s (split s x) e
    (combine_leads (codes "#r") score_four remainder x (pos 4) (byte_of x) _ t (split s x) refl f refl
    (combine_leads (codes "#i") score_four divide x (pos 4) (word_of x) no_more u (split s x) e f refl (leads_none (split s x))))

-- ---- the address

-- an address, split, from the beginning of the window on
pub record Starts (ps : List (List ℕ)) (b : ℤ) (u : Tree) (z : ℤ) (a offset : ℕ) (s : State) : Type 0 where
  pub state : State
  pub leads : Leads (steps_items (start_steps a offset)) s state
  pub holding : Holding ps b u z s state
  pub at_word : state.scores (codes "#i") ≡ Some (word_of (from_base b offset (place_at s a)))
  pub at_byte : state.scores (codes "#r") ≡ Some (byte_of (from_base b offset (place_at s a)))

pub starts : (ps : List (List ℕ)) (b : ℤ) (u : Tree) (z : ℤ) (a offset : ℕ) (s : State) → Holding ps b u z s s → a < length s.places → Starts ps b u z a offset s
starts ps b u z a offset s h l =
    let i = codes "#i" in
    let n : ℤ = place_at s a in
    let c : ℤ = counted offset n in
    let d : ℤ = wrapped (c -ℤ b) in
    let x : ℤ = from_base b offset n in
    let s1 : State = with_score s i n in
    let s2 : State = with_score s1 i c in
    let s3 : State = with_score s2 i d in
    let h1 = holding_work ps b u z s s h i n refl in
    let h2 = holding_work ps b u z s s1 h1 i c refl in
    let h3 = holding_work ps b u z s s2 h2 i d refl in
    let s4 : State = with_score s3 i x in
    let s5 : State = with_score s4 (codes "#r") x in
    let s6 : State = with_score s5 (codes "#r") (byte_of x) in
    let t : State = split s4 x in
    let h4 = holding_work ps b u z s s3 h3 i x refl in
    let h5 = holding_work ps b u z s s4 h4 (codes "#r") x refl in
    let h6 = holding_work ps b u z s s5 h5 (codes "#r") (byte_of x) refl in
    let h7 : Holding ps b u z s t = holding_work ps b u z s s6 h6 i (word_of x) refl in
    record {
      state = t;
      leads =
          act_leads (load_place i a) _ s s1 t l refl
          (steps_lead (far_steps offset) _ s1 s2 t (far_leads s1 n refl offset)
          (combine_leads i score_window subtract c b d _ s2 t refl h.base refl
          (steps_lead (add_steps offset) split_steps s3 s4 t (add_leads s3 d refl offset) (split_leads s4 x refl h4.constants.four))));
      holding = h7;
      at_word = refl;
      at_byte = refl;
    }
