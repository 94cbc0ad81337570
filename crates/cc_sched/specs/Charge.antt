-- The charge of a piece: what its ways take from the budget.
use Rattle.std.specs.Prelude.{◌≡◌, ◌≤◌, ℕ, suc, ◌+◌, ◌∷◌, ℤ, pos, ◌-ℤ◌, Option, Some, Bool, true, false, not, ◌&&◌, nat_eq}
use Rattle.std.specs.List.{list_all}
use Rattle.std.specs.Str.{bytes_eq}
use Rattle.mc_cmd.specs.Form.{Text}
use Rattle.mc_cmd.specs.World.{or_zero, wrapped}
use Rattle.cc_line.specs.Place.{Spot, scratch, placed}
use Rattle.cc_line.specs.State.{State}
use Rattle.cc_line.specs.Step.{Act, set_spot, increase, decrease, combine, load_place, keep_place, load_site, keep_site}
use Rattle.cc_line.specs.Step.{Check, in_range, compare, stands, Cond, holds, fails, Step, run_act, when, stop_when}
use Rattle.cc_line.specs.Item.{Item, step_item, call_item, call_when, fill_item, fill_when, Items, no_more, first}
use Rattle.cc_line.specs.Item.{item_most, items_most, run_items, ItemsReady}
use Rattle.cc_line.specs.OpenStep.{OpenStep, closed_step, open_act, open_when, OpenAct, open_set_spot, open_load_site}
use Rattle.cc_line.specs.OpenStep.{open_combine, open_keep_site}
use Rattle.cc_sched.specs.Names.{is_sched_score, score_budget}

-- what a round of a tick spends besides its piece: its line 2, dispatch 1, the line of the next round 2
abbrev pub round_weight : ℕ
round_weight = 5

-- so much is taken from the budget
abbrev pub take_charge : ℕ → Item
take_charge n = step_item (run_act (decrease (scratch score_budget) n))

-- Before each way out its charge is taken from the budget: what was run and isn't paid yet, n in all, this line, and
-- the way out. It is taken whether the way is taken or not, and what follows pays for itself alone. Helpers count with
-- the most that they weigh. Where a piece begins its round is to be paid.
abbrev pub charge : ℕ → Items → Items
charge n no_more = first (take_charge (n + 1)) no_more
charge n (first (step_item (stop_when cs)) xs) =
    first (take_charge (n + 3)) (first (step_item (stop_when cs)) (charge 0 xs))
charge n (first x xs) = first x (charge (n + item_most x) xs)

-- a score from which so much is taken
abbrev pub lowered : Option ℤ → ℕ → Option ℤ
lowered o n = Some (wrapped (or_zero o -ℤ pos n))

-- The contract of the charge: what a piece takes from the budget covers what was run and the round, and is at most so
-- much.
pub record Charged (xs : Items) (s : State) (most : ℕ) : Type 0 where
  pub charge : ℕ
  pub left : (run_items xs s).state.scores score_budget ≡ lowered (s.scores score_budget) charge
  pub covers : (run_items xs s).used + round_weight ≤ charge
  pub bounded : charge ≤ most

-- the ways out of items: their end, and each step that may end them
abbrev pub exits : Items → ℕ
exits no_more = 1
exits (first (step_item (stop_when cs)) xs) = suc (exits xs)
exits (first x xs) = exits xs

-- ---- items of which a charge is exact

-- a step that never ends its list
abbrev pub step_leads_on : Step → Bool
step_leads_on (run_act a) = true
step_leads_on (when cs a) = true
step_leads_on (stop_when cs) = false

-- the same of a line that is filled
abbrev pub open_leads_on : OpenStep → Bool
open_leads_on (closed_step x) = step_leads_on x
open_leads_on (open_act a) = true
open_leads_on (open_when cs a) = true

-- an item that never ends its list, and weighs the same in every state
abbrev mutual
  pub item_is_level : Item → Bool
  item_is_level (step_item x) = step_leads_on x
  item_is_level (call_item f xs) = items_are_level xs
  item_is_level (call_when cs f xs) = false
  item_is_level (fill_item f p xs) = list_all open_leads_on xs
  item_is_level (fill_when cs f p xs) = false

  pub items_are_level : Items → Bool
  items_are_level no_more = true
  items_are_level (first x xs) = item_is_level x && items_are_level xs

-- a step, which may be a way out, or such an item
abbrev pub item_is_even : Item → Bool
item_is_even (step_item x) = true
item_is_even (call_item f xs) = items_are_level xs
item_is_even (call_when cs f xs) = false
item_is_even (fill_item f p xs) = list_all open_leads_on xs
item_is_even (fill_when cs f p xs) = false

-- items that weigh the same in every state up to the way out that they take: no helper is called or filled where
-- conditions hold, and none has a way out or such a call inside
abbrev pub items_are_even : Items → Bool
items_are_even no_more = true
items_are_even (first x xs) = item_is_even x && items_are_even xs

-- ---- pieces that leave the scheduler's scores alone

-- a spot that is no score of the scheduler
abbrev pub spot_avoids_sched : Spot → Bool
spot_avoids_sched (scratch h) = not (is_sched_score h)
spot_avoids_sched (placed i) = true

-- an act that names none of its scores
abbrev pub act_avoids_sched : Act → Bool
act_avoids_sched (set_spot x z) = spot_avoids_sched x
act_avoids_sched (increase x n) = spot_avoids_sched x
act_avoids_sched (decrease x n) = spot_avoids_sched x
act_avoids_sched (combine x op y) = spot_avoids_sched x && spot_avoids_sched y
act_avoids_sched (load_place h i) = not (is_sched_score h)
act_avoids_sched (keep_place i h) = not (is_sched_score h)
act_avoids_sched (load_site h p) = not (is_sched_score h)
act_avoids_sched (keep_site p h) = not (is_sched_score h)
act_avoids_sched _ = true

-- a test that names none
abbrev pub check_avoids_sched : Check → Bool
check_avoids_sched (in_range x r) = spot_avoids_sched x
check_avoids_sched (compare x c y) = spot_avoids_sched x && spot_avoids_sched y
check_avoids_sched (stands p) = true

-- a condition that names none
abbrev pub cond_avoids_sched : Cond → Bool
cond_avoids_sched (holds c) = check_avoids_sched c
cond_avoids_sched (fails c) = check_avoids_sched c

-- a step that names none
abbrev pub step_avoids_sched : Step → Bool
step_avoids_sched (run_act a) = act_avoids_sched a
step_avoids_sched (when cs a) = list_all cond_avoids_sched cs && act_avoids_sched a
step_avoids_sched (stop_when cs) = list_all cond_avoids_sched cs

-- a stem with which no holder of such a score begins
abbrev pub stem_avoids_sched : Text → Bool
stem_avoids_sched (a ∷ (b ∷ t)) = not (nat_eq 104 b) && not (nat_eq 119 b)
stem_avoids_sched _ = false

-- a macro line's act that names none
abbrev pub open_act_avoids_sched : OpenAct → Bool
open_act_avoids_sched (open_set_spot x n) = spot_avoids_sched x
open_act_avoids_sched (open_combine x op h n) = spot_avoids_sched x && stem_avoids_sched h
open_act_avoids_sched (open_load_site h p) = not (is_sched_score h)
open_act_avoids_sched (open_keep_site p h) = not (is_sched_score h)
open_act_avoids_sched _ = true

-- a line of a filled helper that names none
abbrev pub open_avoids_sched : OpenStep → Bool
open_avoids_sched (closed_step x) = step_avoids_sched x
open_avoids_sched (open_act a) = open_act_avoids_sched a
open_avoids_sched (open_when cs a) = list_all cond_avoids_sched cs && open_act_avoids_sched a

-- items none of which names a score of the scheduler
abbrev mutual
  pub item_avoids_sched : Item → Bool
  item_avoids_sched (step_item x) = step_avoids_sched x
  item_avoids_sched (call_item f xs) = items_avoid_sched xs
  item_avoids_sched (call_when cs f xs) = list_all cond_avoids_sched cs && items_avoid_sched xs
  item_avoids_sched (fill_item f p xs) = list_all open_avoids_sched xs
  item_avoids_sched (fill_when cs f p xs) = list_all cond_avoids_sched cs && list_all open_avoids_sched xs

  pub items_avoid_sched : Items → Bool
  items_avoid_sched no_more = true
  items_avoid_sched (first x xs) = item_avoids_sched x && items_avoid_sched xs

abbrev pub with_scores : State → (Text → Option ℤ) → State
with_scores s f = record s { scores = f }

-- the same scores but for the scheduler's, and these the same
abbrev pub IsLike : (Text → Option ℤ) → (Text → Option ℤ) → Type 0
IsLike f g = (h : Text) → is_sched_score h ≡ false → f h ≡ g h

abbrev pub IsKept : (Text → Option ℤ) → (Text → Option ℤ) → Type 0
IsKept f g = (h : Text) → is_sched_score h ≡ true → f h ≡ g h

-- What a piece with its charges leaves: the state that it leaves without them, but for the budget, from which is taken
-- what covers what was run, and is no more than that where the items are even. The scheduler's other scores are as they
-- were.
pub record Paid (xs : Items) (s : State) : Type 0 where
  pub ready : ItemsReady (charge round_weight xs) s
  pub scores : Text → Option ℤ
  pub state : (run_items (charge round_weight xs) s).state ≡ with_scores (run_items xs s).state scores
  pub like : IsLike scores (run_items xs s).state.scores
  pub kept : (h : Text) → is_sched_score h ≡ true → bytes_eq score_budget h ≡ false → scores h ≡ s.scores h
  pub charged : Charged (charge round_weight xs) s (items_most (charge round_weight xs) + round_weight)
  pub exact : items_are_even xs ≡ true → charged.charge ≡ (run_items (charge round_weight xs) s).used + round_weight
