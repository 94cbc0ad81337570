-- Where one flow leads from another: to the same, or to what differs unseen behind a trap.
use Rattle.std.proofs.Common.{◌≡◌, ℕ, ◌+◌, ◌≤◌, Bool, true, false, refl, sym, ap, ◌∙◌, subst, arith}
use Rattle.std.specs.Prelude.{◌&&◌, if◌then◌else◌}
use Rattle.mc_cmd.specs.Command.{from}
use Rattle.mc_cmd.specs.World.{some_is_in}
use Rattle.std.specs.Prelude.{pos}
use Rattle.cc_line.specs.Key.{score_trap}
use Rattle.cc_line.specs.State.{State}
use Rattle.cc_line.specs.Step.{Flow, flow, more}
use Rattle.cc_line.specs.Item.{Item, Items, first, run_item, run_items, ItemReady, ItemsReady}
use Rattle.cc_stops.specs.Law.{is_trapped, DifferUnseen, LeadAlike, to_same, to_trap}

-- the second flow is the first one, and no heavier; or the first one leaves a trap recorded, and the second one differs
-- unseen
pub data Leads (p q : Flow) : Type 0 where
  same_flow : (k : ℕ) → q ≡ flow p.stopped p.state k → k ≤ p.used → Leads p q
  trapped_flow : is_trapped p.state ≡ true → DifferUnseen p.state q.state → Leads p q

pub leads_none : (p : Flow) → Leads p p
leads_none p = same_flow p.used refl (omega arith)

still_trapped : (s t : State) → DifferUnseen s t → is_trapped t ≡ true → is_trapped s ≡ true
still_trapped s t d e = ap (λ o. some_is_in (from (pos 1)) o && true) (sym (d.scores score_trap refl)) ∙ e

differ_then : (s t u : State) → DifferUnseen s t → DifferUnseen t u → DifferUnseen s u
differ_then s t u a b = record { keys = λ r k e. b.keys r k e ∙ a.keys r k e; scores = λ h e. b.scores h e ∙ a.scores h e }

-- one after the other
pub leads_then : (p q r : Flow) → Leads p q → Leads q r → Leads p r
leads_then p q r (same_flow k e l) (same_flow j f m) =
    let u : q.used ≡ k = ap (λ (x : Flow). x.used) e in
    same_flow j (f ∙ ap (λ (x : Flow). flow x.stopped x.state j) e) (omega arith)
leads_then p q r (same_flow k e l) (trapped_flow t d) =
    let u : q.state ≡ p.state = ap (λ (x : Flow). x.state) e in
    trapped_flow (ap is_trapped (sym u) ∙ t) (subst (λ s. DifferUnseen s r.state) u d)
leads_then p q r (trapped_flow t d) (same_flow j f m) =
    let u : r.state ≡ q.state = ap (λ (x : Flow). x.state) f in
    trapped_flow t (subst (DifferUnseen p.state) (sym u) d)
leads_then p q r (trapped_flow t d) (trapped_flow t' c) = trapped_flow t (differ_then p.state q.state r.state d c)

-- behind lines, the second ones no heavier
pub leads_more : (i j : ℕ) (p q : Flow) → j ≤ i → Leads p q → Leads (more i p) (more j q)
leads_more i j p q l (same_flow k e m) = same_flow (j + k) (ap (more j) e) (let u : j + k ≤ i + p.used = omega arith in u)
leads_more i j p q l (trapped_flow t d) = trapped_flow t d

-- what lines lead to that find what they need
pub record Follows (p : Flow) (ys : Items) (t : State) : Type 0 where
  pub ready : ItemsReady ys t
  pub leads : Leads p (run_items ys t)

pub going_on : (b : Bool) (p q : Flow) → b ≡ false → (if b then p else q) ≡ q
going_on false p q e = refl
going_on true p q e = absurd cc

pub halting : (b : Bool) (p q : Flow) → b ≡ true → (if b then p else q) ≡ p
halting true p q e = refl
halting false p q e = absurd cc

pub goes_on : (x : Item) (xs : Items) (s : State) → (run_item x s).stopped ≡ false → run_items (first x xs) s ≡ more (run_item x s).used (run_items xs (run_item x s).state)
goes_on x xs s e = going_on (run_item x s).stopped (run_item x s) (more (run_item x s).used (run_items xs (run_item x s).state)) e

pub ends_here : (x : Item) (xs : Items) (s : State) → (run_item x s).stopped ≡ true → run_items (first x xs) s ≡ run_item x s
ends_here x xs s e = halting (run_item x s).stopped (run_item x s) (more (run_item x s).used (run_items xs (run_item x s).state)) e

-- an item that stays
pub stays : (x : Item) (xs ys : Items) (s : State) → ItemReady x s → ((run_item x s).stopped ≡ false → Follows (run_items xs (run_item x s).state) ys (run_item x s).state) → Follows (run_items (first x xs) s) (first x ys) s
stays x xs ys s r rest = record { ready = (r, λ e. (rest e).ready); leads = go (run_item x s).stopped refl }
  where
    go : (b : Bool) → (run_item x s).stopped ≡ b → Leads (run_items (first x xs) s) (run_items (first x ys) s)
    go true e = subst (Leads (run_items (first x xs) s)) (ends_here x xs s e ∙ sym (ends_here x ys s e)) (leads_none (run_items (first x xs) s))
    go false e =
        let k = (run_item x s).used in
        subst (λ p. Leads p (run_items (first x ys) s)) (sym (goes_on x xs s e))
        (subst (Leads (more k (run_items xs (run_item x s).state))) (sym (goes_on x ys s e))
        (leads_more k k (run_items xs (run_item x s).state) (run_items ys (run_item x s).state) (omega arith) (rest e).leads))

-- told of items
pub leads_alike : (xs ys : Items) (s : State) → Leads (run_items xs s) (run_items ys s) → LeadAlike xs ys s
leads_alike xs ys s (same_flow k e l) = to_same k e l
leads_alike xs ys s (trapped_flow t d) = to_trap t d
