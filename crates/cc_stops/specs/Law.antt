-- Laws of items with fewer stops, which contracts of public functions cite.
use Rattle.std.specs.Prelude.{◌≡◌, ◌≤◌, ℕ, List, length, Bool, true, false}
use Rattle.mc_cmd.specs.Form.{Text}
use Rattle.cc_line.specs.Sight.{Store}
use Rattle.cc_line.specs.Key.{is_work}
use Rattle.cc_line.specs.Place.{score_places}
use Rattle.cc_line.specs.State.{State}
use Rattle.cc_line.specs.Step.{conds_hold, flow}
use Rattle.cc_line.specs.Item.{Items, run_items, items_most, items_helpers, items_fit, ItemsReady}
use Rattle.cc_text.specs.Short.{items_short}
use Rattle.cc_text.specs.Tables.{ItemsNamed, NamedHelper}
use Rattle.cc_sched.specs.Charge.{exits, items_are_even, items_avoid_sched}
use Rattle.cc_stops.specs.Harmless.{is_unseen}
use Rattle.cc_stops.specs.Stops.{has_trapped, without_stops}

-- a trap is recorded
abbrev pub is_trapped : State → Bool
is_trapped s = conds_hold has_trapped s

-- two states differ at most in places, scratch scores, and keys of which nothing is seen behind a trap
pub record DifferUnseen (s t : State) : Type 0 where
  pub keys : (r : Store) (k : Text) → is_unseen r k ≡ false → t.keys r k ≡ s.keys r k
  pub scores : (h : Text) → is_work h ≡ false → t.scores h ≡ s.scores h

-- Where other items lead from a state: to the same way out and the same state, with no more weight; or, where the items
-- leave a trap recorded, to a state that differs from theirs in nothing that is seen then.
pub data LeadAlike (xs ys : Items) (s : State) : Type 0 where
  to_same : (k : ℕ) → run_items ys s ≡ flow (run_items xs s).stopped (run_items xs s).state k
      → k ≤ (run_items xs s).used → LeadAlike xs ys s
  to_trap : is_trapped (run_items xs s).state ≡ true → DifferUnseen (run_items xs s).state (run_items ys s).state
      → LeadAlike xs ys s

pub record StopLess (xs : Items) (s : State) : Type 0 where
  pub ready : ItemsReady (without_stops xs) s
  pub leads : LeadAlike xs (without_stops xs) s

-- wherever the items find what they need, in a frame with all places that are scores
abbrev pub RunsAlike : Type 0
RunsAlike = (xs : Items) (s : State) → score_places ≤ length s.places → ItemsReady xs s → StopLess xs s

-- they weigh no more, have no more ways out, and call the same helpers
abbrev pub WeighsNoMore : Type 0
WeighsNoMore = (xs : Items) → items_most (without_stops xs) ≤ items_most xs

abbrev pub ExitsNoMore : Type 0
ExitsNoMore = (xs : Items) → exits (without_stops xs) ≤ exits xs

abbrev pub HelpersSame : Type 0
HelpersSame = (ns : Text) (xs : Items) → items_helpers ns (without_stops xs) ≡ items_helpers ns xs

-- what is true of each of the items stays true
abbrev pub KeepsFit : Type 0
KeepsFit = (xs : Items) → items_fit xs ≡ true → items_fit (without_stops xs) ≡ true

abbrev pub KeepsAvoiding : Type 0
KeepsAvoiding = (xs : Items) → items_avoid_sched xs ≡ true → items_avoid_sched (without_stops xs) ≡ true

abbrev pub KeepsEven : Type 0
KeepsEven = (xs : Items) → items_are_even xs ≡ true → items_are_even (without_stops xs) ≡ true

abbrev pub KeepsShort : Type 0
KeepsShort = (xs : Items) → items_short xs ≡ true → items_short (without_stops xs) ≡ true

abbrev pub KeepsNamed : Type 0
KeepsNamed = (names : List NamedHelper) (xs : Items) → ItemsNamed names xs → ItemsNamed names (without_stops xs)
