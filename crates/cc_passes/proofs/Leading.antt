-- Lean items lead where the items lead.
use Rattle.std.proofs.Common.{◌≡◌, ℕ, suc, ◌<◌, ◌≤◌, ◌⊎◌, inl, inr, List, [], ◌∷◌, length, Option, Some, None, Bool, true, false, refl, sym, ap, ◌∙◌, subst, arith}
use Rattle.std.specs.Prelude.{ℤ, pos, ◌||◌, not, nat_lt, slice_index_or}
use Rattle.std.proofs.lemmas.Bool.{lt-ltb, ltb-true}
use Rattle.cc_line.specs.Place.{score_places}
use Rattle.cc_line.specs.State.{State, place_at}
use Rattle.cc_line.specs.Step.{Flow, flow}
use Rattle.cc_line.specs.Item.{Items, run_items, ItemsReady}
use Rattle.cc_copies.specs.Law.{LeadsAlike, ReadsLeadAlike}
use Rattle.cc_copies.specs.Read.{read_at_sources}
use Rattle.cc_names.specs.Law as naming
use Rattle.cc_names.specs.Names.{with_needed_names}
use Rattle.cc_stops.specs.Law.{DifferUnseen, is_trapped, LeadAlike, to_same, to_trap, RunsAlike}
use Rattle.cc_stops.specs.Stops.{without_stops}
use Rattle.cc_unread.specs.Law.{bound_of, is_read_behind, with_places, RunsUnchanged, Unchanged}
use Rattle.cc_unread.specs.Unread.{without_unread}
use Rattle.cc_targets.specs.Law as moved
use Rattle.cc_targets.specs.Targets.{with_targets}
use Rattle.cc_passes.specs.Bound.{ends_bound, or_all, stops_bound}
use Rattle.cc_passes.specs.Law.{AgreesAhead, LeadsLean, LeadsOn, leads_lean, leads_to_trap, LeanItemsLead, StartsAt}
use Rattle.cc_passes.specs.Lean.{lean_items, lean_places}
use Rattle.cc_passes.proofs.Naming.{Ahead, NextIsWithin, ahead_of, none_within, taken_bound}

-- what a lower bound reads a higher one reads
read_higher : (j k i : ℕ) → j ≤ k → is_read_behind j i ≡ true → is_read_behind k i ≡ true
read_higher j k i l h = by (nat_lt i j) refl h
  where
    by : (c : Bool) → nat_lt i j ≡ c → c || not (nat_lt i score_places) ≡ true → is_read_behind k i ≡ true
    by true e h =
        let below : i < j = ltb-true i j e in
        ap (λ (c : Bool). c || not (nat_lt i score_places)) (lt-ltb i k (omega arith))
    by false e h = either (nat_lt i k) (not (nat_lt i score_places)) h
      where
        either : (a b : Bool) → b ≡ true → a || b ≡ true
        either true b f = refl
        either false b f = f

-- all places are read behind the bound that is none
all_read : (i : ℕ) → is_read_behind score_places i ≡ true
all_read i = by (nat_lt i score_places)
  where
    by : (c : Bool) → c || not c ≡ true
    by true = refl
    by false = refl

-- lists with the same numbers
same_numbers : (ps qs : List ℤ) → length ps ≡ length qs → ((i : ℕ) → slice_index_or ps i (pos 0) ≡ slice_index_or qs i (pos 0)) → ps ≡ qs
same_numbers [] [] e f = refl
same_numbers [] (q ∷ qs) e f = absurd cc
same_numbers (p ∷ ps) [] e f = absurd cc
same_numbers (p ∷ ps) (q ∷ qs) e f = ap (λ (z : ℤ). z ∷ ps) (f 0) ∙ ap (λ (l : List ℤ). q ∷ l) (same_numbers ps qs (omega arith) (λ i. f (suc i)))

module _ (reads : ReadsLeadAlike) (unread : RunsUnchanged) (targets : moved.RunsUnchanged) (func : ℕ) (heights : List ℕ) (own : Option ℕ) (xs : Items) (s : State) (starts : StartsAt func heights own s) (ready : ItemsReady xs s) where
  abbrev mid : Items
  mid = read_at_sources xs

  alike : LeadsAlike xs s
  alike = reads xs s ready

  abbrev stops : Option ℕ
  stops = stops_bound func heights own xs

  abbrev ends : Option ℕ
  ends = ends_bound func heights own xs

  abbrev low : Items
  low = without_unread (or_all stops) (or_all ends) mid

  u : Unchanged (or_all stops) (or_all ends) mid s
  u = unread (or_all stops) (or_all ends) mid s alike.ready

  v : moved.Unchanged (or_all stops) (or_all ends) low s
  v = targets (or_all stops) (or_all ends) low s u.ready

  -- the bound of the way out that is taken
  abbrev taken : Option ℕ
  taken = taken_bound func heights own xs (run_items xs s).stopped

  taken_is : (c : Bool) → c ≡ (run_items xs s).stopped → bound_of (or_all stops) (or_all ends) c ≡ or_all taken
  taken_is c e = ap (bound_of (or_all stops) (or_all ends)) e ∙ by (run_items xs s).stopped
    where
      by : (c : Bool) → bound_of (or_all stops) (or_all ends) c ≡ or_all (taken_bound func heights own xs c)
      by true = refl
      by false = refl

  -- numbers in places that are read behind it
  numbers : (i : ℕ) → is_read_behind (or_all taken) i ≡ true → place_at (run_items (with_targets (or_all stops) (or_all ends) low) s).state i ≡ place_at (run_items xs s).state i
  numbers i h =
      v.same i (ap (λ (b : ℕ). is_read_behind b i) (taken_is (run_items low s).stopped (u.stopped ∙ alike.stopped)) ∙ h)
      ∙ (u.same i (ap (λ (b : ℕ). is_read_behind b i) (taken_is (run_items mid s).stopped alike.stopped) ∙ h)
      ∙ ap (λ (t : State). place_at t i) alike.state)

  leads : (run_items (with_targets (or_all stops) (or_all ends) low) s).state ≡ with_places (run_items xs s).state v.places
  leads =
      v.state
      ∙ (ap (λ (t : State). with_places t v.places) u.state ∙ ap (λ (t : State). with_places t v.places) alike.state)

  count : length v.places ≡ length (run_items xs s).state.places
  count =
      v.count
      ∙ (ap (λ (t : State). length t.places) u.state ∙ (u.count ∙ ap (λ (t : State). length t.places) alike.state))

  next_is : Ahead func heights taken (run_items xs s).state
  next_is = ahead_of func heights xs own s (start own starts)
    where
      number_in : Option ℕ → ℕ
      number_in None = 0
      number_in (Some n) = n

      start : (o : Option ℕ) → StartsAt func heights o s → Ahead func heights o s
      start None h k w = none_within k w
      start (Some n) h k w = record { height = n; next = h; low = (let l = w.low in let f : n ≡ w.bound = ap number_in w.is in let r : n ≤ k = omega arith in r) }

  agrees : (o : Option ℕ) → taken ≡ o
      → (v.places ≡ (run_items xs s).state.places) ⊎ AgreesAhead func heights (run_items xs s).state (run_items (with_targets (or_all stops) (or_all ends) low) s).state
  agrees None e =
      inl (same_numbers v.places (run_items xs s).state.places count
      (λ i. ap (λ (t : State). place_at t i) (sym leads) ∙ numbers i (ap (λ (p : Option ℕ). is_read_behind (or_all p) i) e ∙ all_read i)))
  agrees (Some k) e =
      let behind : NextIsWithin func heights k (run_items xs s).state = next_is k (record { bound = k; is = e; low = omega arith }) in
      inr (record {
        height = behind.height;
        next = behind.next;
        same = λ i h. numbers i (ap (λ (p : Option ℕ). is_read_behind (or_all p) i) e ∙ read_higher behind.height k i behind.low h);
      })

  lead : LeadsLean func heights xs (lean_places func heights own xs) s
  lead = record {
    ready = v.ready;
    stopped = v.stopped ∙ (u.stopped ∙ alike.stopped);
    places = v.places;
    state = leads;
    count = count;
    same = agrees taken refl;
    used = (let a = u.used in let b = alike.used in let c = v.used in omega arith);
  }

-- ---- with fewer stops and names

-- where others lead alike, and others yet lead as these do
lead_both : (xs ys zs : Items) (s : State) → LeadAlike xs ys s → LeadAlike ys zs s → LeadAlike xs zs s
lead_both xs ys zs s (to_same k e less) (to_same j f fewer) =
    to_same j (f ∙ ap (λ (p : Flow). flow p.stopped p.state j) e) (let u : (run_items ys s).used ≡ k = ap (λ (p : Flow). p.used) e in omega arith)
lead_both xs ys zs s (to_same k e less) (to_trap trapped d) =
    let same : (run_items ys s).state ≡ (run_items xs s).state = ap (λ (p : Flow). p.state) e in
    to_trap (ap is_trapped (sym same) ∙ trapped) (subst (λ (t : State). DifferUnseen t (run_items zs s).state) same d)
lead_both xs ys zs s (to_trap trapped d) (to_same j f fewer) =
    let same : (run_items zs s).state ≡ (run_items ys s).state = ap (λ (p : Flow). p.state) f in
    to_trap trapped (subst (λ (t : State). DifferUnseen (run_items xs s).state t) (sym same) d)
lead_both xs ys zs s (to_trap trapped d) (to_trap still c) =
    to_trap trapped (record { keys = λ r k e. c.keys r k e ∙ d.keys r k e; scores = λ h e. c.scores h e ∙ d.scores h e })

module _ (func : ℕ) (heights : List ℕ) (xs ys zs : Items) (s : State) (l : LeadsLean func heights ys zs s) where
  -- where the items with fewer of them lead to the same
  led_alike : (k : ℕ) → run_items ys s ≡ flow (run_items xs s).stopped (run_items xs s).state k → k ≤ (run_items xs s).used → LeadsLean func heights xs zs s
  led_alike k e less =
      let same_state : (run_items ys s).state ≡ (run_items xs s).state = ap (λ (f : Flow). f.state) e in
      record {
        ready = l.ready;
        stopped = l.stopped ∙ ap (λ (f : Flow). f.stopped) e;
        places = l.places;
        state = l.state ∙ ap (λ (t : State). with_places t l.places) same_state;
        count = l.count ∙ ap (λ (t : State). length t.places) same_state;
        same = subst (λ (t : State). (l.places ≡ t.places) ⊎ AgreesAhead func heights t (run_items zs s).state) same_state l.same;
        used = (let a = l.used in let b : (run_items ys s).used ≡ k = ap (λ (f : Flow). f.used) e in omega arith);
      }

  -- where they lead to a trap
  led_to_trap : DifferUnseen (run_items xs s).state (run_items ys s).state → DifferUnseen (run_items xs s).state (run_items zs s).state
  led_to_trap d = record {
    keys = λ r k e. ap (λ (t : State). t.keys r k) l.state ∙ d.keys r k e;
    scores = λ h e. ap (λ (t : State). t.scores h) l.state ∙ d.scores h e;
  }

  led_on : LeadAlike xs ys s → LeadsOn func heights xs zs s
  led_on (to_same k e less) = leads_lean (led_alike k e less)
  led_on (to_trap trapped d) = leads_to_trap l.ready trapped (led_to_trap d)

pub lean_items_lead : RunsAlike → naming.RunsAlike → ReadsLeadAlike → RunsUnchanged → moved.RunsUnchanged → LeanItemsLead
lean_items_lead halts names reads unread targets func heights own xs s starts wide ready =
    let ys : Items = without_stops xs in
    let zs : Items = with_needed_names ys in
    let few = halts xs s wide ready in
    let fewer = names ys s few.ready in
    led_on func heights xs zs (lean_items func heights own xs) s
    (lead reads unread targets func heights own zs s starts fewer.ready)
    (lead_both xs ys zs s few.leads fewer.leads)
