-- One item on the way from the end to the beginning.
use Rattle.std.specs.Prelude.{List, [], ◌∷◌, ◌++◌, Bool, true, ◌&&◌, if◌then◌else◌}
use Rattle.cc_line.specs.declared.item.Item.{Item}
use Rattle.cc_line.specs.Item as spec
use Rattle.cc_line.specs.View.{item_view}
use Rattle.cc_stops.specs.Harmless.{item_is_harmless}
use Rattle.cc_stops.specs.Stops.{is_trap_stop}

-- whether all is harmless from an item on up to the next stop at a trap, by whether it is behind it
abbrev pub before : spec.Item → Bool → Bool
before x calm = if is_trap_stop x then true else item_is_harmless x && calm

-- the items so far, and the item, if it stays
abbrev pub and_if_needed : Bool → Item → List Item → List Item
and_if_needed calm x xs = if is_trap_stop (item_view x) && calm then xs else xs ++ (x ∷ [])
