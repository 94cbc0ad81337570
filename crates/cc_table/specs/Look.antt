-- Looking a number up in a table of the program: the element at an index, taken as unsigned, or the last one where the
-- table ends before it.
use Rattle.std.specs.Prelude.{ℕ, zero, suc, List, [], ◌∷◌, ◌++◌, length, ℤ, pos, codes, slice_get, unwrap_or}
use Rattle.mc_nbt.specs.Tree.{key, compound, no_fields}
use Rattle.mc_cmd.specs.Form.{Text}
use Rattle.mc_cmd.specs.Command.{between}
use Rattle.mc_cmd.specs.steps.OpenText.{place_of}
use Rattle.cc_line.specs.Sight.{in_rest}
use Rattle.cc_line.specs.Place.{scratch}
use Rattle.cc_line.specs.Key.{key_table, key_choice}
use Rattle.cc_line.specs.State.{Site, at_key}
use Rattle.cc_line.specs.Step.{set_spot, keep_site, set_site, in_range, fails, Step, run_act, when}
use Rattle.cc_line.specs.OpenStep.{OpenSite, OpenStep, open_act, open_load_site}
use Rattle.cc_line.specs.Item.{step_item, fill_item, Items, no_more, first, join, steps_items}
use Rattle.cc_line.specs.View.{table_step, look_up_steps}

-- the element at an index of a table with these elements and behind them this one
abbrev pub element_or : List ℤ → ℤ → ℕ → ℤ
element_or zs z i = unwrap_or (slice_get zs i) z

-- ---- the index

-- the compound that tells where, and the index in it
abbrev pub choice_site : Site
choice_site = at_key in_rest key_choice

abbrev pub index_site : Site
index_site = record { store = in_rest; name = key_choice; parts = key (codes "a0") ∷ [] }

-- the number in `#a` becomes this one where, as an unsigned number, it isn't below it
abbrev pub clamp_step : ℕ → Step
clamp_step zero = run_act (set_spot (scratch (codes "#a")) (pos 0))
clamp_step (suc n) =
    when
    (fails (in_range (scratch (codes "#a")) (between (pos 0) (pos n))) ∷ [])
    (set_spot (scratch (codes "#a")) (pos (suc n)))

-- the number in `#a` tells which of the elements of a table, of which the last one has this index
abbrev pub index_steps : ℕ → List Step
index_steps n =
    clamp_step n
    ∷ run_act (set_site choice_site (compound no_fields))
    ∷ run_act (keep_site index_site (codes "#a")) ∷ []

-- ---- the element

-- a line that the compound fills: the element comes to `#c`
abbrev pub element_site : OpenSite
element_site = record { store = in_rest; name = key_table; parts = place_of (codes "a0") ∷ [] }

abbrev pub element_steps : List OpenStep
element_steps = open_act (open_load_site (codes "#c") element_site) ∷ []

-- what is told already is looked up in this table
abbrev pub find_items : List ℤ → Items
find_items zs =
    first (step_item (table_step zs)) (first (fill_item (codes "h_cc_look") choice_site element_steps) no_more)

-- the number in `#a` is looked up in the table of these elements and behind them this one
abbrev pub look_items : List ℤ → ℤ → Items
look_items zs z = join (steps_items (index_steps (length zs))) (find_items (zs ++ z ∷ []))

-- the same, where the table stands in a helper of this name
abbrev pub look_by : Text → List ℤ → ℤ → Items
look_by name zs z =
    join
    (steps_items (index_steps (length zs)))
    (first (fill_item name choice_site (look_up_steps (zs ++ z ∷ []) element_steps)) no_more)
