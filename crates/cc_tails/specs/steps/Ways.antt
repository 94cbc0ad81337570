-- What the code counts and asks, item by item.
use Rattle.std.specs.Prelude.{ℕ, Option, Some, None, Bool, false, ◌||◌, nat_lt, if◌then◌else◌}
use Rattle.cc_line.specs.Step.{stop_when}
use Rattle.cc_line.specs.Item.{Item, step_item, Items}
use Rattle.cc_stops.specs.Stops.{is_trap_stop}
use Rattle.cc_tails.specs.Tails.{ends_trapped, item_traps}

-- how many ways out an item is
abbrev pub item_exits : Item → ℕ
item_exits (step_item (stop_when cs)) = 1
item_exits _ = 0

-- whether a trap may be recorded behind an item, by whether one may be before it
abbrev pub trapped_behind : Bool → Item → Bool
trapped_behind b x = if is_trap_stop x then false else (b || item_traps x)

-- the number of a cut that is further on than this one
abbrev pub further_on : ℕ → Option ℕ → Option ℕ
further_on at None = None
further_on at (Some j) = if nat_lt at j then Some j else None

-- what a stop at a trap weighs with its way out, where one comes in between
abbrev pub guard_weight : Items → ℕ
guard_weight xs = if ends_trapped false xs then 3 else 0
