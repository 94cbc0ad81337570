-- Items run on: with others behind them they lead on to where these lead.
use Rattle.std.proofs.Common.{◌≡◌, ℕ, Bool, true, false, refl, sym, ap, ◌∙◌, subst}
use Rattle.std.specs.Prelude.{if◌then◌else◌}
use Rattle.cc_line.specs.State.{State}
use Rattle.cc_line.specs.Step.{stop_when, step_weight, Flow, flow, more}
use Rattle.cc_line.specs.Item.{Item, step_item, Items, no_more, first, join, run_items, ItemsReady}
use Rattle.cc_line.proofs.ItemViewLemmas.{join_assoc}
use Rattle.cc_line.proofs.RunLemmas.{Halts, halts_before, items_then}
use Rattle.cc_stops.specs.Law.{is_trapped}
use Rattle.cc_stops.specs.Stops.{has_trapped}
use Rattle.cc_tails.specs.Law.{ends_there, goes_on, RunsOn, GuardedItemsRunOn}
use Rattle.cc_tails.specs.Tails.{ends_trapped, guarded}
use Rattle.cc_tails.proofs.Untrapped.{ends_untrapped}

abbrev stop : Item
stop = step_item (stop_when has_trapped)

abbrev state_in : State → Items → State
state_in s xs = (run_items xs s).state

same_state : (f g : Flow) → f ≡ g → f.state ≡ g.state
same_state f g e = ap (λ (h : Flow). h.state) e

-- what a stop at a trap leads to, with items behind it
abbrev behind_stop : Items → State → Bool → Flow
behind_stop ys t b = if b then flow b t (step_weight (stop_when has_trapped)) else more (step_weight (stop_when has_trapped)) (run_items ys t)

stopped_state : (ys : Items) (t : State) → is_trapped t ≡ true → state_in t (first stop ys) ≡ t
stopped_state ys t e = ap (λ b. (behind_stop ys t b).state) e

passed_state : (ys : Items) (t : State) → is_trapped t ≡ false → state_in t (first stop ys) ≡ state_in t ys
passed_state ys t e = ap (λ b. (behind_stop ys t b).state) e

-- the guarded items and others, as the items and what comes behind them
guarded_so : (xs ys : Items) → ends_trapped false xs ≡ true → join (guarded xs) ys ≡ join xs (first stop ys)
guarded_so xs ys e = ap (λ b. join (if b then join xs (first stop no_more) else xs) ys) e ∙ join_assoc xs (first stop no_more) ys

bare_so : (xs ys : Items) → ends_trapped false xs ≡ false → join (guarded xs) ys ≡ join xs ys
bare_so xs ys e = ap (λ b. join (if b then join xs (first stop no_more) else xs) ys) e

module _ (xs ys : Items) (s : State) (r : ItemsReady xs s) where
  abbrev t : State
  t = (run_items xs s).state

  abbrev k : ℕ
  k = (run_items xs s).used

  -- the items end their list
  halted : (zs : Items) → join (guarded xs) ys ≡ join xs zs → (run_items xs s).stopped ≡ true → RunsOn xs ys s
  halted zs g e =
      let h : Halts xs s t = record { ready = r; used = k; ends = ap (λ b. flow b t k) e } in
      let j : Halts (join xs zs) s t = halts_before xs zs s t h in record {
        ready = subst (λ v. ItemsReady v s) (sym g) j.ready;
        continues = ends_there (ap (state_in s) g ∙ same_state (run_items (join xs zs) s) (flow true t j.used) j.ends) (λ f. absurd (let y : true ≡ false = sym e ∙ f in cc));
      }

  -- they reach their end
  reached : (zs : Items) → (run_items xs s).stopped ≡ false → ItemsReady zs t → ItemsReady (join xs zs) s × (state_in s (join xs zs) ≡ state_in t zs)
  reached zs e w =
      let n = items_then xs zs s t k (ap (λ b. flow b t k) e) r w in
      (n.0, same_state (run_items (join xs zs) s) (more k (run_items zs t)) n.1)

  -- with a trap recorded, at a stop
  trapped : join (guarded xs) ys ≡ join xs (first stop ys) → (run_items xs s).stopped ≡ false → is_trapped t ≡ true → RunsOn xs ys s
  trapped g e b =
      let n = reached (first stop ys) e ((tt, tt), λ f. absurd (let y : true ≡ false = sym b ∙ f in cc)) in record {
        ready = subst (λ v. ItemsReady v s) (sym g) n.0;
        continues = ends_there (ap (state_in s) g ∙ n.1 ∙ stopped_state ys t b) (λ f. b);
      }

  -- with none
  onward : (zs : Items) → join (guarded xs) ys ≡ join xs zs → (run_items xs s).stopped ≡ false → is_trapped t ≡ false → ItemsReady zs t → state_in t zs ≡ state_in t ys → RunsOn xs ys s
  onward zs g e b w f =
      let n = reached zs e w in record {
        ready = subst (λ v. ItemsReady v s) (sym g) n.0;
        continues = goes_on e b (ap (state_in s) g ∙ n.1 ∙ f);
      }

-- THE LAW: items run on
pub items_lead_on : GuardedItemsRunOn
items_lead_on xs ys s u r w = by (ends_trapped false xs) refl (run_items xs s).stopped refl (is_trapped (t xs ys s r)) refl
  where
    by : (a : Bool) → ends_trapped false xs ≡ a → (b : Bool) → (run_items xs s).stopped ≡ b → (c : Bool) → is_trapped (t xs ys s r) ≡ c → RunsOn xs ys s
    by true d true e c f = halted xs ys s r (first stop ys) (guarded_so xs ys d) e
    by true d false e true f = trapped xs ys s r (guarded_so xs ys d) e f
    by true d false e false f = onward xs ys s r (first stop ys) (guarded_so xs ys d) e f ((tt, tt), λ g. w e f) (passed_state ys (t xs ys s r) f)
    by false d true e c f = halted xs ys s r ys (bare_so xs ys d) e
    by false d false e c f =
        let n = ends_untrapped false xs s (λ g. u) d e in
        onward xs ys s r ys (bare_so xs ys d) e n (w e n) refl
