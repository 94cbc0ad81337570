-- Laws of items that run on, which contracts of public functions cite.
use Rattle.std.specs.Prelude.{◌≡◌, ◌≤◌, ◌+◌, max, ℕ, List, Some, true, false}
use Rattle.cc_line.specs.Sight.{in_rest}
use Rattle.cc_line.specs.Key.{key_next, body_piece, id_tree}
use Rattle.cc_line.specs.State.{State}
use Rattle.cc_line.specs.Item.{Items, join, run_items, items_most, ItemsReady}
use Rattle.cc_sched.specs.Charge.{exits}
use Rattle.cc_stops.specs.Law.{is_trapped}
use Rattle.cc_tails.specs.Tails.{guarded, items_at, last_named, most_weight, tailed}

-- What holds of items, and with any that it holds of for those of the cut that they name, too, holds of items that run
-- on.
abbrev pub HoldsBehindCuts : Type 1
HoldsBehindCuts = (func : ℕ) (cuts : List Items) (P : Items → Type 0)
    → ((xs ys : Items) (j : ℕ) → P xs → last_named func xs ≡ Some j → items_at cuts j ≡ Some ys
    → P (join (guarded xs) ys))
    → (xs : Items) → P xs → P (tailed func cuts xs)

-- Items behind which those of cuts may come to stand, each named by the last one before it.
pub data RunsOver (func : ℕ) (cuts : List Items) (xs : Items) : Items → Type 0 where
  as_they_are : RunsOver func cuts xs xs
  over_one_more : (ys zs : Items) (j : ℕ) → RunsOver func cuts xs ys → last_named func ys ≡ Some j
      → items_at cuts j ≡ Some zs → RunsOver func cuts xs (join (guarded ys) zs)

-- so items run on: this says what is above without speaking of all facts
abbrev pub TailsRunOver : Type 0
TailsRunOver = (func : ℕ) (cuts : List Items) (xs : Items) → RunsOver func cuts xs (tailed func cuts xs)

-- they weigh no more than they did, or than items that run on may, with a line for each way out
abbrev pub TailsAreLight : Type 0
TailsAreLight = (func : ℕ) (cuts : List Items) (xs : Items)
    → items_most (tailed func cuts xs) + exits (tailed func cuts xs) ≤ max (items_most xs + exits xs) most_weight

-- where items reach their end, the cut that their last one names is next
abbrev pub EndsAreNamed : Type 0
EndsAreNamed = (func j : ℕ) (xs : Items) (s : State) → last_named func xs ≡ Some j
    → (run_items xs s).stopped ≡ false
    → (run_items xs s).state.keys in_rest key_next ≡ Some (id_tree (body_piece func j))

-- Where items, and others behind them, lead from a state: to where the items alone lead, if these end their list or
-- leave a trap recorded; else to where the others lead from there.
pub data Continues (xs ys : Items) (s : State) : Type 0 where
  ends_there : (run_items (join (guarded xs) ys) s).state ≡ (run_items xs s).state
      → ((run_items xs s).stopped ≡ false → is_trapped (run_items xs s).state ≡ true) → Continues xs ys s
  goes_on : (run_items xs s).stopped ≡ false → is_trapped (run_items xs s).state ≡ false
      → (run_items (join (guarded xs) ys) s).state ≡ (run_items ys (run_items xs s).state).state → Continues xs ys s

pub record RunsOn (xs ys : Items) (s : State) : Type 0 where
  pub ready : ItemsReady (join (guarded xs) ys) s
  pub continues : Continues xs ys s

-- wherever the items find what they need, and no trap is recorded, and the others find it where they are run
abbrev pub GuardedItemsRunOn : Type 0
GuardedItemsRunOn = (xs ys : Items) (s : State) → is_trapped s ≡ false → ItemsReady xs s
    → ((run_items xs s).stopped ≡ false → is_trapped (run_items xs s).state ≡ false
    → ItemsReady ys (run_items xs s).state)
    → RunsOn xs ys s
