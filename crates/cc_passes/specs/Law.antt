-- Laws of lean items, which contracts of public functions cite.
use Rattle.std.specs.Prelude.{◌≡◌, ◌≤◌, ◌⊎◌, ℕ, List, length, ℤ, Option, Some, None, true}
use Rattle.mc_cmd.specs.Form.{Text}
use Rattle.cc_line.specs.Sight.{in_rest}
use Rattle.cc_line.specs.Key.{key_next, body_piece, id_tree}
use Rattle.cc_line.specs.Place.{score_places}
use Rattle.cc_line.specs.State.{State, place_at}
use Rattle.cc_line.specs.Item.{Items, run_items, items_most, items_helpers, items_fit, ItemsReady}
use Rattle.cc_text.specs.Short.{items_short}
use Rattle.cc_text.specs.Tables.{ItemsNamed, NamedHelper}
use Rattle.cc_sched.specs.Charge.{exits, items_are_even, items_avoid_sched}
use Rattle.cc_stops.specs.Law.{DifferUnseen, is_trapped}
use Rattle.cc_unread.specs.Law.{is_read_behind, with_places}
use Rattle.cc_passes.specs.Bound.{height_at}
use Rattle.cc_passes.specs.Lean.{lean_items}

-- the next piece is a cut of the function of this index, of this height
pub record NamesCut (func : ℕ) (heights : List ℕ) (height : ℕ) (s : State) : Type 0 where
  pub index : ℕ
  pub named : s.keys in_rest key_next ≡ Some (id_tree (body_piece func index))
  pub is_height : height_at heights index ≡ Some height

-- a state has what another one has in the places that the next piece reads, which is a cut of this function
pub record AgreesAhead (func : ℕ) (heights : List ℕ) (s t : State) : Type 0 where
  pub height : ℕ
  pub next : NamesCut func heights height s
  pub same : (i : ℕ) → is_read_behind height i ≡ true → place_at t i ≡ place_at s i

-- What other items do in a state in which items do this: they end their list or not as these do, use no more, and leave
-- what these leave, but for numbers in places that the next piece doesn't read.
pub record LeadsLean (func : ℕ) (heights : List ℕ) (xs ys : Items) (s : State) : Type 0 where
  pub ready : ItemsReady ys s
  pub stopped : (run_items ys s).stopped ≡ (run_items xs s).stopped
  pub places : List ℤ
  pub state : (run_items ys s).state ≡ with_places (run_items xs s).state places
  pub count : length places ≡ length (run_items xs s).state.places
  pub same : (places ≡ (run_items xs s).state.places)
      ⊎ AgreesAhead func heights (run_items xs s).state (run_items ys s).state
  pub used : (run_items ys s).used ≤ (run_items xs s).used

-- They do so, or the items leave a trap recorded, and the others what differs from that in nothing that is seen then.
pub data LeadsOn (func : ℕ) (heights : List ℕ) (xs ys : Items) (s : State) : Type 0 where
  leads_lean : LeadsLean func heights xs ys s → LeadsOn func heights xs ys s
  leads_to_trap : ItemsReady ys s → is_trapped (run_items xs s).state ≡ true
      → DifferUnseen (run_items xs s).state (run_items ys s).state → LeadsOn func heights xs ys s

-- the next piece is the piece itself, where that is one of a cut of this height
abbrev pub StartsAt : ℕ → List ℕ → Option ℕ → State → Type 0
StartsAt func heights None s = Unit {0}
StartsAt func heights (Some own) s = NamesCut func heights own s

-- so do lean items wherever the items find their places in a frame with all that are scores, and the piece is itself
-- the next one, if it is that of a cut
abbrev pub LeanItemsLead : Type 0
LeanItemsLead = (func : ℕ) (heights : List ℕ) (own : Option ℕ) (xs : Items) (s : State)
    → StartsAt func heights own s → score_places ≤ length s.places → ItemsReady xs s
    → LeadsOn func heights xs (lean_items func heights own xs) s

-- they weigh no more, and have no more ways out
abbrev pub LeanItemsWeighNoMore : Type 0
LeanItemsWeighNoMore = (func : ℕ) (heights : List ℕ) (own : Option ℕ) (xs : Items)
    → items_most (lean_items func heights own xs) ≤ items_most xs

abbrev pub LeanItemsExitNoMore : Type 0
LeanItemsExitNoMore =
    (func : ℕ) (heights : List ℕ) (own : Option ℕ) (xs : Items) → exits (lean_items func heights own xs) ≤ exits xs

-- they call the same helpers, of the same names
abbrev pub LeanItemsHaveHelpers : Type 0
LeanItemsHaveHelpers = (ns : Text) (func : ℕ) (heights : List ℕ) (own : Option ℕ) (xs : Items)
    → items_helpers ns (lean_items func heights own xs) ≡ items_helpers ns xs

abbrev pub LeanItemsAreNamed : Type 0
LeanItemsAreNamed = (all : List NamedHelper) (func : ℕ) (heights : List ℕ) (own : Option ℕ) (xs : Items)
    → ItemsNamed all xs → ItemsNamed all (lean_items func heights own xs)

-- they are lines where the items are, and short where these are short lines
abbrev pub LeanItemsFit : Type 0
LeanItemsFit = (func : ℕ) (heights : List ℕ) (own : Option ℕ) (xs : Items)
    → items_fit xs ≡ true → items_fit (lean_items func heights own xs) ≡ true

abbrev pub LeanItemsAreShort : Type 0
LeanItemsAreShort = (func : ℕ) (heights : List ℕ) (own : Option ℕ) (xs : Items)
    → items_fit xs ≡ true → items_short xs ≡ true → items_short (lean_items func heights own xs) ≡ true

-- they leave the scheduler's scores alone where the items do, and are even where these are
abbrev pub LeanItemsAvoidSched : Type 0
LeanItemsAvoidSched = (func : ℕ) (heights : List ℕ) (own : Option ℕ) (xs : Items)
    → items_avoid_sched xs ≡ true → items_avoid_sched (lean_items func heights own xs) ≡ true

abbrev pub LeanItemsAreEven : Type 0
LeanItemsAreEven = (func : ℕ) (heights : List ℕ) (own : Option ℕ) (xs : Items)
    → items_are_even xs ≡ true → items_are_even (lean_items func heights own xs) ≡ true
