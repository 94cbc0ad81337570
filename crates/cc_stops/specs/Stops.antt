-- Items without the stops at a trap behind which all is harmless.
use Rattle.std.specs.Prelude.{pos, List, [], ◌∷◌, Bool, true, false, ◌&&◌, if◌then◌else◌}
use Rattle.std.specs.Ordering.{int_eq}
use Rattle.std.specs.Str.{bytes_eq}
use Rattle.mc_cmd.specs.Command.{Range, from}
use Rattle.cc_line.specs.Key.{score_trap}
use Rattle.cc_line.specs.Place.{scratch}
use Rattle.cc_line.specs.Step.{Check, in_range, Cond, holds, stop_when}
use Rattle.cc_line.specs.Item.{Item, step_item, Items, no_more, first}
use Rattle.cc_stops.specs.Harmless.{item_is_harmless}

-- a trap is recorded: its number is 1 or more
abbrev pub has_trapped : List Cond
has_trapped = holds (in_range (scratch score_trap) (from (pos 1))) ∷ []

abbrev pub is_from_one : Range → Bool
is_from_one (from z) = int_eq z (pos 1)
is_from_one _ = false

abbrev pub tells_trap : Check → Bool
tells_trap (in_range (scratch h) r) = bytes_eq score_trap h && is_from_one r
tells_trap _ = false

-- whether conditions say this alone
abbrev pub tell_trap : List Cond → Bool
tell_trap (holds c ∷ []) = tells_trap c
tell_trap _ = false

-- the end of the list where a trap is recorded
abbrev pub is_trap_stop : Item → Bool
is_trap_stop (step_item (stop_when cs)) = tell_trap cs
is_trap_stop _ = false

-- up to the next such stop, or to the end, all items are harmless
abbrev pub are_harmless : Items → Bool
are_harmless no_more = true
are_harmless (first x xs) = if is_trap_stop x then true else item_is_harmless x && are_harmless xs

-- Without a stop the items behind it are run too where a trap is recorded.
abbrev pub without_stops : Items → Items
without_stops no_more = no_more
without_stops (first x xs) =
    if is_trap_stop x && are_harmless xs then without_stops xs else first x (without_stops xs)
