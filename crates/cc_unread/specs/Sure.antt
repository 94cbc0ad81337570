-- Scratch scores that items surely set. A scratch score may be unset, and then a place to which it is kept may stay as it
-- was; where the score is surely set, the place surely gets its number.
use Rattle.std.specs.Prelude.{List, [], ◌∷◌, ◌++◌, Bool, true, false, not, ◌&&◌, ◌||◌, if◌then◌else◌}
use Rattle.std.specs.Str.{bytes_eq}
use Rattle.mc_cmd.specs.Form.{Text}
use Rattle.mc_cmd.specs.Command.{Op}
use Rattle.cc_line.specs.Place.{Spot, scratch, placed}
use Rattle.cc_line.specs.Step.{Act, set_spot, increase, decrease, combine, load_place, keep_place, load_site}
use Rattle.cc_line.specs.Step.{Step, run_act, when, stop_when}
use Rattle.cc_line.specs.OpenStep.{OpenAct, open_load_site, OpenStep, closed_step, open_act, open_when}
use Rattle.cc_line.specs.Item.{Item, step_item, call_item, call_when, fill_item, fill_when, Items, no_more, first}
use Rattle.cc_unread.specs.Reads.{is_assign}

-- whether a scratch score is one of these
abbrev pub is_set : List Text → Text → Bool
is_set [] h = false
is_set (g ∷ gs) h = bytes_eq g h || is_set gs h

-- whether a spot has a number, where these scratch scores have one; a place always has
abbrev pub spot_is_set : List Text → Spot → Bool
spot_is_set set (scratch h) = is_set set h
spot_is_set set (placed i) = true

-- one more has a number
abbrev pub and_one : List Text → Text → List Text
and_one set h = if is_set set h then set else set ++ (h ∷ [])

abbrev pub and_spot : List Text → Spot → List Text
and_spot set (scratch h) = and_one set h
and_spot set (placed i) = set

-- ---- the scratch scores that have a number behind an act, a step or an item, by those that have one before

abbrev pub combined_sets : List Text → Spot → Op → Spot → List Text
combined_sets set x op y = if is_assign op && spot_is_set set y then and_spot set x else set

abbrev pub act_sets : List Text → Act → List Text
act_sets set (set_spot x z) = and_spot set x
act_sets set (increase x n) = and_spot set x
act_sets set (decrease x n) = and_spot set x
act_sets set (combine x op y) = combined_sets set x op y
act_sets set (load_place h i) = and_one set h
act_sets set (load_site h p) = and_one set h
act_sets set _ = set

abbrev pub step_sets : List Text → Step → List Text
step_sets set (run_act a) = act_sets set a
step_sets set (when cs a) = set
step_sets set (stop_when cs) = set

-- of a line that is filled
abbrev pub open_act_sets : List Text → OpenAct → List Text
open_act_sets set (open_load_site h p) = and_one set h
open_act_sets set _ = set

abbrev pub open_step_sets : List Text → OpenStep → List Text
open_step_sets set (closed_step x) = step_sets set x
open_step_sets set (open_act a) = open_act_sets set a
open_step_sets set (open_when cs a) = set

-- whether a step may end its list of lines
abbrev pub may_stop : Step → Bool
may_stop (stop_when cs) = true
may_stop _ = false

abbrev pub open_may_stop : OpenStep → Bool
open_may_stop (closed_step x) = may_stop x
open_may_stop _ = false

-- of a helper's lines, up to the first that may end them
abbrev pub open_steps_sets : List Text → List OpenStep → List Text
open_steps_sets set [] = set
open_steps_sets set (x ∷ xs) = if open_may_stop x then set else open_steps_sets (open_step_sets set x) xs

abbrev pub item_may_stop : Item → Bool
item_may_stop (step_item x) = may_stop x
item_may_stop _ = false

abbrev mutual
  -- where an item leads on
  pub item_sets : List Text → Item → List Text
  item_sets set (step_item x) = step_sets set x
  item_sets set (call_item f xs) = items_sets set xs
  item_sets set (call_when cs f xs) = set
  item_sets set (fill_item f p xs) = open_steps_sets set xs
  item_sets set (fill_when cs f p xs) = set

  pub items_sets : List Text → Items → List Text
  items_sets set no_more = set
  items_sets set (first x xs) = if item_may_stop x then set else items_sets (item_sets set x) xs

-- ---- whether each place to which a scratch score is kept gets its number

abbrev pub kept_is_sure : List Text → Spot → Op → Spot → Bool
kept_is_sure set (scratch g) op y = true
kept_is_sure set (placed i) op (placed j) = true
kept_is_sure set (placed i) op (scratch h) = not (is_assign op) || is_set set h

abbrev pub act_is_sure : List Text → Act → Bool
act_is_sure set (combine x op y) = kept_is_sure set x op y
act_is_sure set (keep_place i h) = is_set set h
act_is_sure set _ = true

abbrev pub item_is_sure : List Text → Item → Bool
item_is_sure set (step_item (run_act a)) = act_is_sure set a
item_is_sure set _ = true

abbrev pub are_sure : List Text → Items → Bool
are_sure set no_more = true
are_sure set (first x xs) = item_is_sure set x && are_sure (item_sets set x) xs

-- items of which nothing is known before them
abbrev pub is_sure : Items → Bool
is_sure xs = are_sure [] xs
