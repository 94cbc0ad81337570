-- Laws of items with the names that are needed, which contracts of public functions cite.
use Rattle.std.specs.Prelude.{◌≡◌, ◌≤◌, List, true}
use Rattle.mc_cmd.specs.Form.{Text}
use Rattle.cc_line.specs.State.{State}
use Rattle.cc_line.specs.Item.{Items, items_most, items_helpers, items_fit, ItemsReady}
use Rattle.cc_text.specs.Short.{items_short}
use Rattle.cc_text.specs.Tables.{ItemsNamed, NamedHelper}
use Rattle.cc_sched.specs.Charge.{exits, items_are_even, items_avoid_sched}
use Rattle.cc_stops.specs.Law.{LeadAlike}
use Rattle.cc_names.specs.Names.{with_needed_names}

pub record NamedLess (xs : Items) (s : State) : Type 0 where
  pub ready : ItemsReady (with_needed_names xs) s
  pub leads : LeadAlike xs (with_needed_names xs) s

-- wherever the items find what they need
abbrev pub RunsAlike : Type 0
RunsAlike = (xs : Items) (s : State) → ItemsReady xs s → NamedLess xs s

-- they weigh no more, have as many ways out, and call the same helpers
abbrev pub WeighsNoMore : Type 0
WeighsNoMore = (xs : Items) → items_most (with_needed_names xs) ≤ items_most xs

abbrev pub ExitsSame : Type 0
ExitsSame = (xs : Items) → exits (with_needed_names xs) ≡ exits xs

abbrev pub HelpersSame : Type 0
HelpersSame = (ns : Text) (xs : Items) → items_helpers ns (with_needed_names xs) ≡ items_helpers ns xs

-- what is true of each of the items stays true
abbrev pub KeepsFit : Type 0
KeepsFit = (xs : Items) → items_fit xs ≡ true → items_fit (with_needed_names xs) ≡ true

abbrev pub KeepsAvoiding : Type 0
KeepsAvoiding = (xs : Items) → items_avoid_sched xs ≡ true → items_avoid_sched (with_needed_names xs) ≡ true

abbrev pub KeepsEven : Type 0
KeepsEven = (xs : Items) → items_are_even xs ≡ true → items_are_even (with_needed_names xs) ≡ true

abbrev pub KeepsShort : Type 0
KeepsShort = (xs : Items) → items_short xs ≡ true → items_short (with_needed_names xs) ≡ true

abbrev pub KeepsNamed : Type 0
KeepsNamed = (names : List NamedHelper) (xs : Items) → ItemsNamed names xs → ItemsNamed names (with_needed_names xs)
