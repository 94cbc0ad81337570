-- One item on the way from the end to the beginning.
use Rattle.std.specs.Prelude.{List, [], ◌∷◌, ◌++◌, Option, Some, None, option_map, Bool, false, if◌then◌else◌}
use Rattle.cc_line.specs.declared.item.Item.{Item}
use Rattle.cc_line.specs.declared.step.Conds.{Conds}
use Rattle.cc_line.specs.Item as spec
use Rattle.cc_line.specs.Step.{Cond}
use Rattle.cc_line.specs.View.{conds_view, item_view}
use Rattle.cc_names.specs.Names.{conds_speak, exit_before, is_needless, needed_before}

-- whether the conditions under which a helper is called speak of the key of the next piece, if it has any
abbrev pub when_speaks : Option Conds → Bool
when_speaks None = false
when_speaks (Some cs) = conds_speak (conds_view cs)

-- the conditions of a way out, if there is one
abbrev pub exit_view : Option Conds → Option (List Cond)
exit_view exit = option_map conds_view exit

-- before an item, whether it stays or not: whether the name is needed, and the way out with which the items begin
abbrev pub need_before : spec.Item → Bool → Bool
need_before x needed = if is_needless x needed then needed else needed_before x needed

abbrev pub way_before : spec.Item → Bool → Option (List Cond) → Option (List Cond)
way_before x needed exit = if is_needless x needed then exit else exit_before x needed

-- the items so far, and the item, if it stays
abbrev pub and_kept : Bool → Item → List Item → List Item
and_kept needed x xs = if is_needless (item_view x) needed then xs else xs ++ (x ∷ [])
