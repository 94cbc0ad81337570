-- Items that run on: behind items that in any case name a cut of their own function as the next piece, the items of
-- that cut stand once more, as compilers duplicate tails.
use Rattle.std.specs.Prelude.{ℕ, zero, suc, ◌+◌, List, [], ◌∷◌, Option, Some, None, slice_get, Bool, false}
use Rattle.std.specs.Prelude.{◌||◌, nat_lt, nat_le, if◌then◌else◌}
use Rattle.std.specs.Str.{bytes_eq}
use Rattle.mc_nbt.specs.Tree.{Tree, Part, tree_same}
use Rattle.cc_line.specs.Key.{score_trap, body_piece, id_tree}
use Rattle.cc_line.specs.Place.{Spot, scratch, placed}
use Rattle.cc_line.specs.Step.{Act, set_spot, increase, decrease, combine, load_place, load_site, set_site}
use Rattle.cc_line.specs.Step.{Step, run_act, when, stop_when}
use Rattle.cc_line.specs.OpenStep.{OpenAct, OpenStep, closed_step, open_act, open_when}
use Rattle.cc_line.specs.OpenStep.{open_set_spot, open_combine, open_load_site}
use Rattle.cc_line.specs.Item.{Item, step_item, call_item, call_when, fill_item, fill_when, Items, no_more, first, join}
use Rattle.cc_line.specs.Item.{items_most}
use Rattle.cc_sched.specs.Charge.{exits}
use Rattle.cc_stops.specs.Stops.{has_trapped, is_trap_stop}
use Rattle.cc_names.specs.Names.{is_next}
use Rattle.cc_passes.specs.Bound.{told_number}

-- ---- which piece is next at the end

-- the number of the cut of the function of this index that a tree names
unfoldable pub cut_told : ℕ → Tree → Option ℕ
cut_told func t = if tree_same t (id_tree (body_piece func (told_number t))) then Some (told_number t) else None

abbrev pub cut_set : ℕ → List Part → Tree → Option ℕ
cut_set func [] t = cut_told func t
cut_set func (q ∷ qs) t = None

-- the same of an item that in any case names the next piece
abbrev pub cut_named : ℕ → Item → Option ℕ
cut_named func (step_item (run_act (set_site p t))) = if is_next p.store p.name then cut_set func p.parts t else None
cut_named func _ = None

-- the cut that the last of the items names so
abbrev pub last_named : ℕ → Items → Option ℕ
last_named func no_more = None
last_named func (first x no_more) = cut_named func x
last_named func (first x (first y ys)) = last_named func (first y ys)

-- ---- whether a trap may be recorded at the end

abbrev pub spot_is_trap : Spot → Bool
spot_is_trap (scratch h) = bytes_eq h score_trap
spot_is_trap (placed i) = false

-- acts that write the score of the trap
abbrev pub act_traps : Act → Bool
act_traps (set_spot x z) = spot_is_trap x
act_traps (increase x n) = spot_is_trap x
act_traps (decrease x n) = spot_is_trap x
act_traps (combine x op y) = spot_is_trap x
act_traps (load_place h i) = bytes_eq h score_trap
act_traps (load_site h p) = bytes_eq h score_trap
act_traps _ = false

abbrev pub step_traps : Step → Bool
step_traps (run_act a) = act_traps a
step_traps (when cs a) = act_traps a
step_traps (stop_when cs) = false

-- the same of macro lines, whatever fills them
abbrev pub open_act_traps : OpenAct → Bool
open_act_traps (open_set_spot x n) = spot_is_trap x
open_act_traps (open_combine x op h n) = spot_is_trap x
open_act_traps (open_load_site h p) = bytes_eq h score_trap
open_act_traps _ = false

abbrev pub open_step_traps : OpenStep → Bool
open_step_traps (closed_step x) = step_traps x
open_step_traps (open_act a) = open_act_traps a
open_step_traps (open_when cs a) = open_act_traps a

abbrev pub open_steps_trap : List OpenStep → Bool
open_steps_trap [] = false
open_steps_trap (x ∷ xs) = open_step_traps x || open_steps_trap xs

-- items that write it, or whose helpers do
abbrev mutual
  pub item_traps : Item → Bool
  item_traps (step_item x) = step_traps x
  item_traps (call_item f xs) = items_trap xs
  item_traps (call_when cs f xs) = items_trap xs
  item_traps (fill_item f p xs) = open_steps_trap xs
  item_traps (fill_when cs f p xs) = open_steps_trap xs

  pub items_trap : Items → Bool
  items_trap no_more = false
  items_trap (first x xs) = item_traps x || items_trap xs

-- whether a trap may be recorded where items reach their end, if one may be before them
abbrev pub ends_trapped : Bool → Items → Bool
ends_trapped b no_more = b
ends_trapped b (first x xs) = ends_trapped (if is_trap_stop x then false else (b || item_traps x)) xs

-- the items, and the end of the list where a trap may be recorded behind them
abbrev pub guarded : Items → Items
guarded xs = if ends_trapped false xs then join xs (first (step_item (stop_when has_trapped)) no_more) else xs

-- ---- running on

-- the most that items weigh, with a line for each way out, that run on
abbrev pub most_weight : ℕ
most_weight = 200

-- how many cuts they run on over
abbrev pub most_cuts : ℕ
most_cuts = 8

-- the items of the cut of this number; cuts count from 1
abbrev pub items_at : List Items → ℕ → Option Items
items_at cuts zero = None
items_at cuts (suc i) = slice_get cuts i

-- the items and those of this cut, where they are light enough
abbrev pub with_cut : Items → Option Items → Option Items
with_cut xs None = None
with_cut xs (Some ys) =
    if nat_le (items_most (join (guarded xs) ys) + exits (join (guarded xs) ys)) most_weight
    then Some (join (guarded xs) ys)
    else None

-- behind items and those of a cut they go on so; where there are none behind, they end
abbrev pub behind_cut : (ℕ → Items → Items) → ℕ → Items → Option Items → Items
behind_cut again j xs None = xs
behind_cut again j xs (Some ys) = again j ys

-- only to cuts further on than the last one over which they ran on, so that no loop is run twice
abbrev pub to_cut : List Items → (ℕ → Items → Items) → ℕ → Items → Option ℕ → Items
to_cut cuts again at xs None = xs
to_cut cuts again at xs (Some j) =
    if nat_lt at j then behind_cut again j xs (with_cut xs (items_at cuts j)) else xs

-- Items run on over so many cuts of their function, whose items are these, the last one of this number.
abbrev pub running_on : ℕ → List Items → ℕ → ℕ → Items → Items
running_on func cuts zero at xs = xs
running_on func cuts (suc k) at xs = to_cut cuts (λ j ys. running_on func cuts k j ys) at xs (last_named func xs)

unfoldable pub tailed : ℕ → List Items → Items → Items
tailed func cuts xs = running_on func cuts most_cuts 0 xs
