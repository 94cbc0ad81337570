-- Items that name the next piece only where its name is needed.
use Rattle.std.specs.Prelude.{List, [], ◌∷◌, Option, Some, None, is_some, Bool, true, false, not, ◌&&◌, ◌||◌}
use Rattle.std.specs.Prelude.{if◌then◌else◌}
use Rattle.std.specs.Str.{bytes_eq}
use Rattle.mc_nbt.specs.Tree.{Tree, Part}
use Rattle.mc_cmd.specs.Form.{Text}
use Rattle.cc_line.specs.Sight.{Store, in_rest, same_store}
use Rattle.cc_line.specs.Key.{key_next}
use Rattle.cc_line.specs.State.{within_key}
use Rattle.cc_line.specs.Step.{Act, load_site, keep_site, place_to_site, site_to_place, set_site, copy_site}
use Rattle.cc_line.specs.Step.{append_value_to, append_site, erase_site, save_list, restore_list, Check, stands, Cond}
use Rattle.cc_line.specs.Step.{holds, fails, Step, run_act, when, stop_when}
use Rattle.cc_line.specs.OpenStep.{OpenAct, open_load_site, open_keep_site, open_place_to_site, open_site_to_place}
use Rattle.cc_line.specs.OpenStep.{open_set_site, open_copy_site, OpenStep, closed_step, open_act, open_when}
use Rattle.cc_line.specs.Item.{Item, step_item, call_item, call_when, fill_item, fill_when, Items, no_more, first}
use Rattle.cc_stops.specs.Stops.{is_trap_stop}
use Rattle.cc_names.specs.Same.{same_conds}

-- whether a key is that of the next piece
abbrev pub is_next : Store → Text → Bool
is_next r k = same_store r in_rest && bytes_eq k key_next

-- ---- which items name the next piece

-- a tree that may stand under a key
unfoldable pub may_stand : Tree → Bool
may_stand t = is_some (within_key t)

-- a tree that is set at the key itself, and so is all that stands under it then
abbrev pub is_whole : List Part → Tree → Bool
is_whole [] t = may_stand t
is_whole (q ∷ qs) t = false

-- an act that writes all that stands under the key
abbrev pub act_names_next : Act → Bool
act_names_next (set_site p t) = is_next p.store p.name && is_whole p.parts t
act_names_next _ = false

-- a line of such an act, always or where conditions hold
abbrev pub step_names_next : Step → Bool
step_names_next (run_act a) = act_names_next a
step_names_next (when cs a) = act_names_next a
step_names_next (stop_when cs) = false

abbrev pub item_names_next : Item → Bool
item_names_next (step_item x) = step_names_next x
item_names_next _ = false

-- one of such an act always
abbrev pub surely_names_next : Item → Bool
surely_names_next (step_item (run_act a)) = act_names_next a
surely_names_next _ = false

-- ---- which items speak of the key

abbrev pub act_speaks : Act → Bool
act_speaks (load_site h p) = is_next p.store p.name
act_speaks (keep_site p h) = is_next p.store p.name
act_speaks (place_to_site p i) = is_next p.store p.name
act_speaks (site_to_place i p) = is_next p.store p.name
act_speaks (set_site p t) = is_next p.store p.name
act_speaks (copy_site p q) = is_next p.store p.name || is_next q.store q.name
act_speaks (append_value_to p t) = is_next p.store p.name
act_speaks (append_site p q) = is_next p.store p.name || is_next q.store q.name
act_speaks (erase_site p) = is_next p.store p.name
act_speaks (save_list p) = is_next p.store p.name
act_speaks (restore_list p) = is_next p.store p.name
act_speaks _ = false

abbrev pub check_speaks : Check → Bool
check_speaks (stands p) = is_next p.store p.name
check_speaks _ = false

abbrev pub cond_speaks : Cond → Bool
cond_speaks (holds c) = check_speaks c
cond_speaks (fails c) = check_speaks c

abbrev pub conds_speak : List Cond → Bool
conds_speak [] = false
conds_speak (c ∷ cs) = cond_speaks c || conds_speak cs

abbrev pub step_speaks : Step → Bool
step_speaks (run_act a) = act_speaks a
step_speaks (when cs a) = conds_speak cs || act_speaks a
step_speaks (stop_when cs) = conds_speak cs

-- the same of a macro line, whatever fills it
abbrev pub open_act_speaks : OpenAct → Bool
open_act_speaks (open_load_site h p) = is_next p.store p.name
open_act_speaks (open_keep_site p h) = is_next p.store p.name
open_act_speaks (open_place_to_site p i) = is_next p.store p.name
open_act_speaks (open_site_to_place i p) = is_next p.store p.name
open_act_speaks (open_set_site p t) = is_next p.store p.name
open_act_speaks (open_copy_site p q) = is_next p.store p.name || is_next q.store q.name
open_act_speaks _ = false

abbrev pub open_step_speaks : OpenStep → Bool
open_step_speaks (closed_step x) = step_speaks x
open_step_speaks (open_act a) = open_act_speaks a
open_step_speaks (open_when cs a) = conds_speak cs || open_act_speaks a

abbrev pub open_steps_speak : List OpenStep → Bool
open_steps_speak [] = false
open_steps_speak (x ∷ xs) = open_step_speaks x || open_steps_speak xs

-- an item, with its helper and with what fills that
abbrev mutual
  pub item_speaks : Item → Bool
  item_speaks (step_item x) = step_speaks x
  item_speaks (call_item f xs) = items_speak xs
  item_speaks (call_when cs f xs) = conds_speak cs || items_speak xs
  item_speaks (fill_item f p xs) = is_next p.store p.name || open_steps_speak xs
  item_speaks (fill_when cs f p xs) = conds_speak cs || (is_next p.store p.name || open_steps_speak xs)

  pub items_speak : Items → Bool
  items_speak no_more = false
  items_speak (first x xs) = item_speaks x || items_speak xs

-- ---- where the name is needed

abbrev pub is_way_out : Item → Bool
is_way_out (step_item (stop_when cs)) = true
is_way_out _ = false

-- Whether it is needed before an item, by whether it is behind it: at a way out whoever comes next is found by it, but
-- where a trap is recorded nobody comes.
abbrev pub needed_before : Item → Bool → Bool
needed_before x behind =
    if is_trap_stop x then behind
    else if is_way_out x then true else if surely_names_next x then false else item_speaks x || behind

abbrev pub is_needed : Items → Bool
is_needed no_more = true
is_needed (first x xs) = needed_before x (is_needed xs)

-- ---- items with the names that are needed

-- the conditions of a way out behind which the name isn't needed
abbrev pub exit_before : Item → Bool → Option (List Cond)
exit_before (step_item (stop_when cs)) behind = if behind then None else Some cs
exit_before _ behind = None

-- those of the way out with which items begin
abbrev pub exit_of : Items → Option (List Cond)
exit_of no_more = None
exit_of (first x xs) = exit_before x (is_needed xs)

-- A line that names the next piece under the conditions of the way out behind it may do so always: where they don't
-- hold the name isn't needed.
abbrev pub freed_step : Option (List Cond) → Step → Step
freed_step (Some ds) (when cs a) = if act_names_next a && same_conds cs ds then run_act a else when cs a
freed_step _ x = x

abbrev pub freed : Option (List Cond) → Item → Item
freed exit (step_item x) = step_item (freed_step exit x)
freed exit x = x

-- a line that does nothing but name the next piece where the name isn't needed behind it
abbrev pub is_needless : Item → Bool → Bool
is_needless x behind = item_names_next x && not behind

abbrev pub and_if_needed : Item → Items → Items
and_if_needed x xs = if is_needless x (is_needed xs) then xs else first x xs

-- from the end backward
abbrev pub with_needed_names : Items → Items
with_needed_names no_more = no_more
with_needed_names (first x xs) = and_if_needed (freed (exit_of (with_needed_names xs)) x) (with_needed_names xs)
