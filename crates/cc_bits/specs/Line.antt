-- Lines over scratch scores in short, and what stands round every operation: its operands come from their places, and
-- its result goes to its place.
use Rattle.std.specs.Prelude.{ℕ, List, [], ◌∷◌, ℤ, codes}
use Rattle.mc_nbt.specs.Tree.{key, compound, no_fields}
use Rattle.mc_cmd.specs.Form.{Text}
use Rattle.mc_cmd.specs.Command.{Op, Range}
use Rattle.mc_cmd.specs.steps.OpenText.{OpenPart, step, place_of}
use Rattle.cc_line.specs.declared.table.Table.{Table}
use Rattle.cc_line.specs.Sight.{in_rest}
use Rattle.cc_line.specs.Place.{scratch}
use Rattle.cc_line.specs.Key.{key_table, key_choice}
use Rattle.cc_line.specs.State.{Site, at_key}
use Rattle.cc_line.specs.Table.{table_tree}
use Rattle.cc_line.specs.Step.{Act, set_spot, combine, load_place, keep_place, keep_site, set_site, in_range, holds}
use Rattle.cc_line.specs.Step.{Step, run_act, when}
use Rattle.cc_line.specs.OpenStep.{OpenStep, closed_step, open_act, open_load_site, open_copy_site}
use Rattle.cc_line.specs.Item.{step_item, Items, no_more, first, join}

-- a score gets a number; it gets what an operation of it and another one gives
abbrev pub sets : Text → ℤ → Step
sets h z = run_act (set_spot (scratch h) z)

abbrev pub makes : Text → Op → Text → Step
makes h op g = run_act (combine (scratch h) op (scratch g))

-- an act where a score is in a range
abbrev pub where_in : Range → Text → Act → Step
where_in r h a = when (holds (in_range (scratch h) r) ∷ []) a

abbrev pub makes_in : Range → Text → Text → Op → Text → Step
makes_in r i h op g = where_in r i (combine (scratch h) op (scratch g))

-- ---- looking numbers up

-- the compound that tells where, and the table
abbrev pub choice_site : Site
choice_site = at_key in_rest key_choice

abbrev pub table_site : Site
table_site = at_key in_rest key_table

-- the compound without keys; a key of it as a score; the table
abbrev pub clears : Step
clears = run_act (set_site choice_site (compound no_fields))

abbrev pub tells : Text → Text → Step
tells k h = run_act (keep_site (record { store = in_rest; name = key_choice; parts = key k ∷ [] }) h)

abbrev pub lays : Table → Step
lays t = run_act (set_site table_site (table_tree t))

-- a line that the compound fills: a score as what stands in the table at places of which some are told
abbrev pub looks : Text → List OpenPart → OpenStep
looks h ps = open_act (open_load_site h (record { store = in_rest; name = key_table; parts = ps }))

-- the same of a standing table, under its key; and a key of the compound as what stands in a standing table
abbrev pub finds : Text → Text → List OpenPart → OpenStep
finds k h ps = open_act (open_load_site h (record { store = in_rest; name = k; parts = ps }))

abbrev pub takes : Text → Text → Text → OpenStep
takes k to at =
    open_act (open_copy_site
    (record { store = in_rest; name = key_choice; parts = step (key to) ∷ [] })
    (record { store = in_rest; name = k; parts = place_of at ∷ [] }))

abbrev pub still : Step → OpenStep
still x = closed_step x

-- ---- operands and result

abbrev pub one_step : Step → Items → Items
one_step x xs = first (step_item x) xs

abbrev pub loads : Text → ℕ → Step
loads h a = run_act (load_place h a)

abbrev pub keeps : ℕ → Text → Step
keeps r h = run_act (keep_place r h)

-- the operand comes to `#a`, and then the result from that score to its place
abbrev pub of_one : ℕ → ℕ → Items → Text → Items
of_one a r xs h = one_step (loads (codes "#a") a) (join xs (one_step (keeps r h) no_more))

-- the operands come to `#a` and `#b`, and then the result from that score
abbrev pub of_two : ℕ → ℕ → ℕ → Items → Text → Items
of_two a b r xs h =
    one_step (loads (codes "#a") a) (one_step (loads (codes "#b") b) (join xs (one_step (keeps r h) no_more)))
