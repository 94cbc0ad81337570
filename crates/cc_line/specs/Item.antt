-- Emitted code as data: steps, and calls of helpers, with what it does to a state, its weight, its lines and its
-- helpers.
use Rattle.std.specs.Prelude.{◌≡◌, ℕ, ◌+◌, pos, List, [], ◌∷◌, ◌++◌, Some, Bool, true, false, ◌&&◌, if◌then◌else◌}
use Rattle.mc_cmd.specs.Form.{Text}
use Rattle.mc_cmd.specs.Word.{is_function_name}
use Rattle.mc_cmd.specs.Command.{call, call_with, Cmd, plain, execute}
use Rattle.mc_cmd.specs.Grammar.{cmd_text}
use Rattle.mc_cmd.specs.Layout.{full_name}
use Rattle.mc_cmd.specs.Tidy.{Tidy}
use Rattle.mc_cmd.specs.Chain.{Texts, Functions}
use Rattle.cc_line.specs.State.{State, Site, site_path, selected}
use Rattle.cc_line.specs.Step.{Cond, Step, site_id, cond_subs, step_command, step_weight, steps_weight, conds_hold}
use Rattle.cc_line.specs.Step.{stops}
use Rattle.cc_line.specs.Step.{after_step, Flow, flow, more, run_steps, CondsReady, StepReady, Ready}
use Rattle.cc_line.specs.Fit.{site_fits, conds_fit, step_fits}
use Rattle.cc_line.specs.OpenStep.{OpenStep, steps_with, steps_names, HasSomeInts, ints_in, open_texts, open_steps_fit}

mutual
  -- a step; a call of a helper, always or where conditions hold; a call of a helper whose lines the compound at a path
  -- fills, always or where conditions hold
  pub data Item : Type 0 where
    step_item : Step → Item
    call_item : Text → Items → Item
    call_when : List Cond → Text → Items → Item
    fill_item : Text → Site → List OpenStep → Item
    fill_when : List Cond → Text → Site → List OpenStep → Item

  pub data Items : Type 0 where
    no_more : Items
    first : Item → Items → Items

-- one after the other
abbrev pub join : Items → Items → Items
join no_more ys = ys
join (first x xs) ys = first x (join xs ys)

-- steps as items
abbrev pub steps_items : List Step → Items
steps_items [] = no_more
steps_items (x ∷ xs) = first (step_item x) (steps_items xs)

-- ---- what they do

-- a helper's end is that of its call
abbrev pub called : ℕ → Flow → Flow
called k f = flow false f.state (k + f.used)

-- the steps of a helper that is filled in this state
abbrev pub filled_steps : Site → List OpenStep → State → List Step
filled_steps p xs s = steps_with (ints_in (selected s p)) xs

abbrev mutual
  pub run_item : Item → State → Flow
  run_item (step_item x) s = flow (stops x s) (after_step x s) (step_weight x)
  run_item (call_item f xs) s = called 1 (run_items xs s)
  run_item (call_when cs f xs) s = if conds_hold cs s then called 2 (run_items xs s) else flow false s 2
  run_item (fill_item f p xs) s = called 1 (run_steps (filled_steps p xs s) s)
  run_item (fill_when cs f p xs) s =
      if conds_hold cs s then called 2 (run_steps (filled_steps p xs s) s) else flow false s 2

  -- where items lead, and the weight that they use on the way
  pub run_items : Items → State → Flow
  run_items no_more s = flow false s 0
  run_items (first x xs) s =
      if (run_item x s).stopped then run_item x s else more (run_item x s).used (run_items xs (run_item x s).state)

-- the most that they weigh
abbrev mutual
  pub item_most : Item → ℕ
  item_most (step_item x) = step_weight x
  item_most (call_item f xs) = 1 + items_most xs
  item_most (call_when cs f xs) = 2 + items_most xs
  item_most (fill_item f p xs) = 1 + steps_weight (steps_with (λ n. pos 0) xs)
  item_most (fill_when cs f p xs) = 2 + steps_weight (steps_with (λ n. pos 0) xs)

  pub items_most : Items → ℕ
  items_most no_more = 0
  items_most (first x xs) = item_most x + items_most xs

-- the places that they need on the way, and the ints that fill their helpers' lines
abbrev mutual
  pub ItemReady : Item → State → Type 0
  ItemReady (step_item x) s = StepReady x s
  ItemReady (call_item f xs) s = ItemsReady xs s
  ItemReady (call_when cs f xs) s = CondsReady cs s × (conds_hold cs s ≡ true → ItemsReady xs s)
  ItemReady (fill_item f p xs) s = HasSomeInts (selected s p) (steps_names xs) × Ready (filled_steps p xs s) s
  ItemReady (fill_when cs f p xs) s =
      CondsReady cs s
      × (conds_hold cs s ≡ true → HasSomeInts (selected s p) (steps_names xs) × Ready (filled_steps p xs s) s)

  pub ItemsReady : Items → State → Type 0
  ItemsReady no_more s = Unit {0}
  ItemsReady (first x xs) s =
      ItemReady x s × ((run_item x s).stopped ≡ false → ItemsReady xs (run_item x s).state)

-- ---- their lines

abbrev pub item_command : Text → Item → Cmd
item_command ns (step_item x) = step_command ns x
item_command ns (call_item f xs) = plain (call (full_name ns f))
item_command ns (call_when cs f xs) = execute (cond_subs ns cs) (call (full_name ns f))
item_command ns (fill_item f p xs) = plain (call_with (full_name ns f) (site_id ns p) (site_path p))
item_command ns (fill_when cs f p xs) =
    execute (cond_subs ns cs) (call_with (full_name ns f) (site_id ns p) (site_path p))

abbrev pub item_text : Text → Item → Text
item_text ns x = cmd_text (item_command ns x)

abbrev pub items_texts : Text → Items → Texts
items_texts ns no_more = []
items_texts ns (first x xs) = item_text ns x ∷ items_texts ns xs

-- a function of a pack: its name without the namespace, and its lines
pub record Helper : Type 0 where
  pub name : Text
  pub lines : Texts

-- the helpers that they call, and those that these call
abbrev mutual
  pub item_helpers : Text → Item → List Helper
  item_helpers ns (step_item x) = []
  item_helpers ns (call_item f xs) = record { name = f; lines = items_texts ns xs } ∷ items_helpers ns xs
  item_helpers ns (call_when cs f xs) = record { name = f; lines = items_texts ns xs } ∷ items_helpers ns xs
  item_helpers ns (fill_item f p xs) = record { name = f; lines = open_texts ns xs } ∷ []
  item_helpers ns (fill_when cs f p xs) = record { name = f; lines = open_texts ns xs } ∷ []

  pub items_helpers : Text → Items → List Helper
  items_helpers ns no_more = []
  items_helpers ns (first x xs) = item_helpers ns x ++ items_helpers ns xs

-- a pack has these functions under the namespace
abbrev pub HasAll : Functions → Text → List Helper → Type 0
HasAll functions ns [] = Unit {0}
HasAll functions ns (h ∷ hs) = (functions (full_name ns h.name) ≡ Some h.lines) × HasAll functions ns hs

-- the lines of these functions are tidy under the namespace
abbrev pub AllTidy : Text → List Helper → Type 0
AllTidy ns [] = Unit {0}
AllTidy ns (h ∷ hs) = Tidy ns h.lines × AllTidy ns hs

-- which items are lines under every namespace
abbrev mutual
  pub item_fits : Item → Bool
  item_fits (step_item x) = step_fits x
  item_fits (call_item f xs) = is_function_name f && items_fit xs
  item_fits (call_when cs f xs) = conds_fit cs && (is_function_name f && items_fit xs)
  item_fits (fill_item f p xs) = is_function_name f && (site_fits p && open_steps_fit xs)
  item_fits (fill_when cs f p xs) = conds_fit cs && (is_function_name f && (site_fits p && open_steps_fit xs))

  pub items_fit : Items → Bool
  items_fit no_more = true
  items_fit (first x xs) = item_fits x && items_fit xs
