-- What pieces weigh, which the contracts of public functions cite.
use Rattle.std.specs.Prelude.{◌≡◌, ◌≤◌, ◌<◌, ℕ, ◌+◌, true}
use Rattle.mc_cmd.specs.declared.TheConstants.{PIECE}
use Rattle.cc_line.specs.Item.{Items, items_fit, items_most}
use Rattle.cc_sched.specs.Charge.{charge, round_weight, items_avoid_sched}
use Rattle.cc_sched.specs.Pieces.{turn_weight}
use Rattle.cc_bulk.specs.Grow.{grower_items}
use Rattle.cc_pieces.specs.Placing.{placer_items}
use Rattle.cc_pieces.specs.Entry.{done_items, taker_items}

-- items that are lines under every namespace, leave the scheduler's scores alone, and with their charges, a turn, and
-- the call of their function, where they have one, weigh at most PIECE
pub record IsLight (xs : Items) : Type 0 where
  pub fits : items_fit xs ≡ true
  pub avoids : items_avoid_sched xs ≡ true
  pub light : items_most (charge round_weight xs) + turn_weight < PIECE

-- no call has more whole pieces of arguments
abbrev pub most_takers : ℕ
most_takers = 11

abbrev pub TakersAreLight : Type 0
TakersAreLight = (k : ℕ) → k < most_takers → IsLight (taker_items k)

-- nor has one more ints of results
abbrev pub most_results : ℕ
most_results = 2

-- a frame has no more places
abbrev pub most_placers : ℕ
most_placers = 4096

abbrev pub PlacersAreLight : Type 0
PlacersAreLight = (ints i : ℕ) → ints ≤ 2 → i < most_placers → IsLight (placer_items ints i)

abbrev pub GrowerIsLight : Type 0
GrowerIsLight = IsLight grower_items

abbrev pub DonesAreLight : Type 0
DonesAreLight = (w : ℕ) → w ≤ most_results → IsLight (done_items w)
