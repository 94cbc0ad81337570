-- Where items lead that change nothing but scratch scores of routines, and what holds there.
use Rattle.std.proofs.Common.{◌≡◌, ◌+◌, List, Bool, true, false, refl, ap, ◌∙◌}
use Rattle.mc_cmd.specs.Form.{Text}
use Rattle.cc_line.specs.Key.{is_work}
use Rattle.cc_line.specs.State.{State}
use Rattle.cc_line.specs.Step.{Cond, Step, CondsReady}
use Rattle.cc_line.specs.Item.{Items, no_more, first, call_item, call_when, join, steps_items, called}
use Rattle.cc_line.specs.Within.{steps_within}
use Rattle.cc_line.proofs.RunLemmas.{Leads, leads_none, leads_first, leads_join, straight_leads, called_leads, uncalled_leads}
use Rattle.cc_line.proofs.SettleLemmas.{works, pinned, settled, settled_straight, settled_beside, settled_places, settled_keys, all_hold, all_hold_is}

-- nothing but scratch scores of routines differs
pub record Beside (s t : State) : Type 0 where
  pub places : t.places ≡ s.places
  pub keys : t.keys ≡ s.keys
  pub scores : (h : Text) → is_work h ≡ false → t.scores h ≡ s.scores h

pub beside_none : (s : State) → Beside s s
beside_none s = record { places = refl; keys = refl; scores = λ h w. refl }

pub beside_both : (s t u : State) → Beside s t → Beside t u → Beside s u
beside_both s t u f g = record { places = g.places ∙ f.places; keys = g.keys ∙ f.keys; scores = λ h w. g.scores h w ∙ f.scores h w }

-- items that lead to such a state in which this holds
pub record Goes (xs : Items) (s : State) (P : State → Type 0) : Type 0 where
  pub state : State
  pub leads : Leads xs s state
  pub beside : Beside s state
  pub holds : P state

pub goes_none : (s : State) (P : State → Type 0) → P s → Goes no_more s P
goes_none s P p = record { state = s; leads = leads_none s; beside = beside_none s; holds = p }

pub goes_so : (xs : Items) (s : State) (P Q : State → Type 0) → Goes xs s P → ((t : State) → P t → Q t) → Goes xs s Q
goes_so xs s P Q f g = record { state = f.state; leads = f.leads; beside = f.beside; holds = g f.state f.holds }

pub goes_join : (xs ys : Items) (s : State) (P Q : State → Type 0) → Goes xs s P → ((t : State) → P t → Goes ys t Q) → Goes (join xs ys) s Q
goes_join xs ys s P Q f g =
    let h : Goes ys f.state Q = g f.state f.holds in
    record {
      state = h.state;
      leads = leads_join xs ys s f.state h.state f.leads h.leads;
      beside = beside_both s f.state h.state f.beside h.beside;
      holds = h.holds;
    }

pub goes_steps : (xs : List Step) (s : State) (P : State → Type 0) → works xs ≡ true → steps_within 0 xs ≡ true → pinned xs s ≡ true → P (settled xs s) → Goes (steps_items xs) s P
goes_steps xs s P w i p h = record {
  state = settled xs s;
  leads = straight_leads xs s (settled xs s) (settled_straight xs s i p);
  beside = record { places = settled_places xs s; keys = settled_keys xs s; scores = λ g k. settled_beside xs s g w k };
  holds = h;
}

-- a helper called where conditions hold
pub goes_when : (cs : List Cond) (f : Text) (xs : Items) (s : State) (P : State → Type 0) (b : Bool) → CondsReady cs s → all_hold cs s ≡ b → (b ≡ true → Goes xs s P) → (b ≡ false → P s)
    → Goes (first (call_when cs f xs) no_more) s P
goes_when cs f xs s P true r e g h =
    let q : Goes xs s P = g refl in
    record { state = q.state; leads = called_leads cs f xs s q.state r (all_hold_is cs s ∙ e) q.leads; beside = q.beside; holds = q.holds }
goes_when cs f xs s P false r e g h = record { state = s; leads = uncalled_leads cs f xs s r (all_hold_is cs s ∙ e); beside = beside_none s; holds = h refl }

-- a helper called always, and what follows it
pub goes_call : (f : Text) (xs ys : Items) (s : State) (P Q : State → Type 0) → Goes xs s P → ((t : State) → P t → Goes ys t Q) → Goes (first (call_item f xs) ys) s Q
goes_call f xs ys s P Q g h =
    let q : Goes ys g.state Q = h g.state g.holds in
    record {
      state = q.state;
      leads = leads_first (call_item f xs) s ys g.state q.state (1 + g.leads.used) g.leads.ready (ap (called 1) g.leads.ends) q.leads;
      beside = beside_both s g.state q.state g.beside q.beside;
      holds = q.holds;
    }
