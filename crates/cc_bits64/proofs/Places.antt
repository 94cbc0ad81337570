-- Items that write two places, one behind the other.
use Rattle.std.proofs.Common.{◌≡◌, ℕ, zero, suc, ◌+◌, ◌<◌, List, [], ◌∷◌, length, length-set, Some, false, refl, sym, ap, ◌∙◌, subst, arith}
use Rattle.std.specs.Prelude.{ℤ, pos, slice_set, slice_index_or}
use Rattle.mc_cmd.specs.Form.{Text}
use Rattle.cc_line.specs.State.{State, place_at, set_places, with_place}
use Rattle.cc_line.specs.Step.{set_place, run_act, step_weight, flow, more, with_kept}
use Rattle.cc_line.specs.Item.{step_item, Items, no_more, join}
use Rattle.cc_line.specs.Routine.{Gives}
use Rattle.cc_line.proofs.CoreLemmas.{get_other}
use Rattle.cc_line.proofs.RunLemmas.{Leads, leads_none, leads_first, items_then}
use Rattle.cc_bits.specs.Line.{keeps, one_step}
use Rattle.cc_bits.proofs.LookLemmas.{Near}
use Rattle.cc_bits64.specs.Halves.{small_result}

-- ---- lists

get_same : (zs : List ℤ) (i : ℕ) (z : ℤ) → i < length zs → slice_index_or (slice_set zs i z) i (pos 0) ≡ z
get_same [] i z h = absurd (omega arith)
get_same (y ∷ zs) zero z h = refl
get_same (y ∷ zs) (suc i) z h = get_same zs i z (omega arith)

set_own : (zs : List ℤ) (i : ℕ) → slice_set zs i (slice_index_or zs i (pos 0)) ≡ zs
set_own [] i = refl
set_own (y ∷ zs) zero = refl
set_own (y ∷ zs) (suc i) = ap (λ l. y ∷ l) (set_own zs i)

pair_again : (zs : List ℤ) (a : ℕ) (x y u v : ℤ) → set_places (set_places zs a (x ∷ (y ∷ []))) a (u ∷ (v ∷ [])) ≡ set_places zs a (u ∷ (v ∷ []))
pair_again [] a x y u v = refl
pair_again (z ∷ []) zero x y u v = refl
pair_again (z ∷ (w ∷ zs)) zero x y u v = refl
pair_again (z ∷ zs) (suc a) x y u v = ap (λ l. z ∷ l) (pair_again zs a x y u v)

-- ---- what stands in the places afterwards

module _ (xs : Items) (s : State) (a : ℕ) where
  pub one_long : (x : ℤ) (g : Gives xs s a (x ∷ [])) → length g.state.places ≡ length s.places
  one_long x g = ap length g.replaced.places ∙ length-set s.places a x

  pub beside_one : (x : ℤ) (g : Gives xs s a (x ∷ [])) (j : ℕ) → (a ≡ j → ⊥) → place_at g.state j ≡ place_at s j
  beside_one x g j n = ap (λ ps. slice_index_or ps j (pos 0)) g.replaced.places ∙ get_other s.places a j x n

  module _ (x y : ℤ) (g : Gives xs s a (x ∷ (y ∷ []))) where
    pub pair_long : length g.state.places ≡ length s.places
    pair_long = ap length g.replaced.places ∙ length-set (slice_set s.places a x) (suc a) y ∙ length-set s.places a x

    pub low_after : a < length s.places → place_at g.state a ≡ x
    low_after l = ap (λ ps. slice_index_or ps a (pos 0)) g.replaced.places ∙ get_other (slice_set s.places a x) (suc a) a y (λ e. omega arith) ∙ get_same s.places a x l

    pub high_after : suc a < length s.places → place_at g.state (suc a) ≡ y
    high_after l = ap (λ ps. slice_index_or ps (suc a) (pos 0)) g.replaced.places ∙ get_same (slice_set s.places a x) (suc a) y (subst (λ n. suc a < n) (sym (length-set s.places a x)) l)

  -- one of the two is written, the other one stays
  pub low_alone : (x : ℤ) → Gives xs s a (x ∷ []) → Gives xs s a (x ∷ (place_at s (suc a) ∷ []))
  low_alone x g =
      let ps : List ℤ = slice_set s.places a x in
      let e : slice_set (slice_set s.places a x) (suc a) (place_at s (suc a)) ≡ slice_set s.places a x =
      ap (slice_set ps (suc a)) (sym (get_other s.places a (suc a) x (λ e. omega arith))) ∙ set_own ps (suc a)
      in record {
        ready = g.ready;
        state = g.state;
        used = g.used;
        ends = g.ends;
        replaced = record { places = g.replaced.places ∙ sym e; keys = g.replaced.keys; scores = g.replaced.scores };
      }

  pub high_alone : (y : ℤ) → Gives xs s (suc a) (y ∷ []) → Gives xs s a (place_at s a ∷ (y ∷ []))
  high_alone y g = record {
    ready = g.ready;
    state = g.state;
    used = g.used;
    ends = g.ends;
    replaced = record { places = g.replaced.places ∙ ap (λ ps. slice_set ps (suc a) y) (sym (set_own s.places a)); keys = g.replaced.keys; scores = g.replaced.scores };
  }

-- ---- one after the other

module _ (xs ys : Items) (s : State) (a : ℕ) where
  -- both write the two places
  pub pair_then : (x y u v : ℤ) (g : Gives xs s a (x ∷ (y ∷ []))) → Gives ys g.state a (u ∷ (v ∷ [])) → Gives (join xs ys) s a (u ∷ (v ∷ []))
  pair_then x y u v g h =
      let n = items_then xs ys s g.state g.used g.ends g.ready h.ready in record {
        ready = n.0;
        state = h.state;
        used = g.used + h.used;
        ends = n.1 ∙ ap (more g.used) h.ends;
        replaced = record {
          places = h.replaced.places ∙ ap (λ ps. set_places ps a (u ∷ (v ∷ []))) g.replaced.places ∙ pair_again s.places a x y u v;
          keys = λ r k e. h.replaced.keys r k e ∙ g.replaced.keys r k e;
          scores = λ t i w. h.replaced.scores t i w ∙ g.replaced.scores t i w;
        };
      }

  -- the first writes the low one, the second the high one
  pub halves_then : (x y : ℤ) (g : Gives xs s a (x ∷ [])) → Gives ys g.state (suc a) (y ∷ []) → Gives (join xs ys) s a (x ∷ (y ∷ []))
  halves_then x y g h =
      let n = items_then xs ys s g.state g.used g.ends g.ready h.ready in record {
        ready = n.0;
        state = h.state;
        used = g.used + h.used;
        ends = n.1 ∙ ap (more g.used) h.ends;
        replaced = record {
          places = h.replaced.places ∙ ap (λ ps. slice_set ps (suc a) y) g.replaced.places;
          keys = λ r k e. h.replaced.keys r k e ∙ g.replaced.keys r k e;
          scores = λ t i w. h.replaced.scores t i w ∙ g.replaced.scores t i w;
        };
      }

-- ---- results from scores

abbrev pub both_from : ℕ → Text → Text → Items
both_from a g h = one_step (keeps a g) (one_step (keeps (suc a) h) no_more)

module _ (t : State) (a : ℕ) (room : suc a < length t.places) where
  both_long : (x : ℤ) → suc a < length (with_place t a x).places
  both_long x = subst (λ n. suc a < n) (sym (length-set t.places a x)) room

  pub both_kept_lead : (g h : Text) (x y : ℤ) → t.scores g ≡ Some x → t.scores h ≡ Some y → Leads (both_from a g h) t (with_place (with_place t a x) (suc a) y)
  both_kept_lead g h x y e d =
      let u : State = with_place t a x in
      let v : State = with_place u (suc a) y in
      leads_first (step_item (keeps a g)) t (one_step (keeps (suc a) h) no_more) u v (step_weight (keeps a g)) (omega arith)
      (ap (λ o. flow false (with_kept t a o) (step_weight (keeps a g))) e)
      (leads_first (step_item (keeps (suc a) h)) u no_more v v (step_weight (keeps (suc a) h)) (both_long x)
      (ap (λ o. flow false (with_kept u (suc a) o) (step_weight (keeps (suc a) h))) d) (leads_none v))

  pub small_kept_lead : (g : Text) (x : ℤ) → t.scores g ≡ Some x → Leads (small_result a g) t (with_place (with_place t a x) (suc a) (pos 0))
  small_kept_lead g x e =
      let u : State = with_place t a x in
      let v : State = with_place u (suc a) (pos 0) in
      leads_first (step_item (keeps a g)) t (one_step (run_act (set_place (suc a) (pos 0))) no_more) u v (step_weight (keeps a g)) (omega arith)
      (ap (λ o. flow false (with_kept t a o) (step_weight (keeps a g))) e)
      (leads_first (step_item (run_act (set_place (suc a) (pos 0)))) u no_more v v (step_weight (run_act (set_place (suc a) (pos 0)))) (both_long x) refl (leads_none v))

-- nothing but the two places differs, and scratch
pub pair_given : (xs : Items) (s t : State) (a : ℕ) (x y : ℤ) → Near s t → Leads xs s (with_place (with_place t a x) (suc a) y) → Gives xs s a (x ∷ (y ∷ []))
pair_given xs s t a x y near all = record {
  ready = all.ready;
  state = with_place (with_place t a x) (suc a) y;
  used = all.used;
  ends = all.ends;
  replaced = record { places = ap (λ ps. slice_set (slice_set ps a x) (suc a) y) near.places; keys = near.keys; scores = λ g k e. near.scores g e };
}
