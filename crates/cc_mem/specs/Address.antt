-- The address of an access: where it lies in the window, or, where it doesn't, in a page that becomes the window.
use Rattle.std.specs.Prelude.{ℕ, ◌+◌, ◌/◌, List, [], ◌∷◌, ◌++◌, ℤ, pos, negsuc, Bool, ◌&&◌, if◌then◌else◌, nat_le}
use Rattle.std.specs.Prelude.{nat_eq, codes}
use Rattle.std.specs.Fmt.{decimal}
use Rattle.mc_nbt.specs.Tree.{compound, no_fields, key, place}
use Rattle.mc_cmd.specs.Form.{Text}
use Rattle.mc_cmd.specs.Command.{assign, subtract, add, multiply, divide, remainder, between, exactly, from}
use Rattle.mc_cmd.specs.steps.OpenText.{place_of}
use Rattle.cc_line.specs.Sight.{in_memory, in_rest}
use Rattle.cc_line.specs.Key.{key_memory, key_filling, key_choice, score_trap, score_window, score_four}
use Rattle.cc_line.specs.Key.{score_page_words}
use Rattle.cc_line.specs.Key.{scale_of}
use Rattle.cc_line.specs.Place.{Spot, scratch}
use Rattle.cc_line.specs.State.{Site, at_key}
use Rattle.cc_line.specs.Step.{Act, set_spot, increase, decrease, combine, load_place, keep_site, set_site, in_range}
use Rattle.cc_line.specs.Step.{stands}
use Rattle.cc_line.specs.Step.{Cond, holds, fails, Step, run_act, when, stop_when}
use Rattle.cc_line.specs.OpenStep.{OpenSite, OpenStep, open_act, open_load_site}
use Rattle.cc_line.specs.Item.{Item, step_item, call_when, fill_item, Items, no_more, first, join, steps_items}
use Rattle.cc_mem.specs.Standing.{stem_byte}

-- ---- paths

-- what fills the lines of accesses, and its parts: the page, the place and the byte
abbrev pub filling_site : Site
filling_site = at_key in_rest key_filling

abbrev pub filling_at : Text → Site
filling_at k = record { store = in_rest; name = key_filling; parts = key k ∷ [] }

-- what tells other lines where, and its parts
abbrev pub choice_site : Site
choice_site = at_key in_rest key_choice

abbrev pub choice_at : Text → Site
choice_at k = record { store = in_rest; name = key_choice; parts = key k ∷ [] }

-- the word whose page and place the window's compound tells
abbrev pub window_word : OpenSite
window_word = record {
  store = in_memory;
  name = key_memory;
  parts = place_of (codes "p") ∷ (place_of (codes "i") ∷ []);
}

-- a page whose number the other compound tells, and a word in one
abbrev pub told_page : OpenSite
told_page = record { store = in_memory; name = key_memory; parts = place_of (codes "a0") ∷ [] }

abbrev pub told_word : OpenSite
told_word =
    record { store = in_memory; name = key_memory; parts = place_of (codes "a0") ∷ (place_of (codes "a1") ∷ []) }

-- the memory's first page
abbrev pub first_page : Site
first_page = record { store = in_memory; name = key_memory; parts = place (pos 0) ∷ [] }

-- ---- scores

abbrev pub at_i : Spot
at_i = scratch (codes "#i")

abbrev pub at_r : Spot
at_r = scratch (codes "#r")

abbrev pub at_p : Spot
at_p = scratch (codes "#p")

abbrev pub at_c : Spot
at_c = scratch (codes "#c")

-- ---- traps

-- the number of the trap of an access out of bounds
abbrev pub bounds_trap : ℕ
bounds_trap = 4

abbrev pub record_trap : Act
record_trap = set_spot (scratch score_trap) (pos bounds_trap)

abbrev pub has_trapped : List Cond
has_trapped = holds (in_range (scratch score_trap) (from (pos 1))) ∷ []

abbrev pub stop_step : Step
stop_step = stop_when has_trapped

-- where the memory may have no page, an access traps where it has none
abbrev pub no_page : List Cond
no_page = fails (stands first_page) ∷ []

abbrev pub empty_steps : Bool → List Step
empty_steps sure = if sure then [] else when no_page record_trap ∷ (stop_when no_page ∷ [])

-- ---- where an address lies from the window's beginning on

-- offsets up to this one are near
abbrev pub most_near : ℕ
most_near = 8192

-- and none from this one on leads into the memory, whatever the address
abbrev pub no_offset : ℕ
no_offset = 16777216

-- For an offset that is near, and isn't 0, there is a helper of its own that moves the window. Any other one shares the
-- same helper, which takes no notice of it, as no address leads round to the beginning by it.
abbrev pub is_told : ℕ → Bool
is_told offset = nat_le 1 offset && nat_le offset most_near

-- with an offset that leads nowhere the access traps
abbrev pub lost_steps : List Step
lost_steps = run_act record_trap ∷ (stop_step ∷ [])

abbrev pub add_steps : ℕ → List Step
add_steps offset = if nat_eq offset 0 then [] else run_act (increase at_i offset) ∷ []

-- an address from 2^24 on, and one with a sign, leads nowhere
abbrev pub outside : List Cond
outside = fails (in_range at_i (between (pos 0) (pos 16777215))) ∷ []

abbrev pub unless_inside : ℤ → Step
unless_inside z = when outside (set_spot at_i z)

-- where the offset is not near, such an address goes so far below the window that the offset doesn't bring it there
abbrev pub far_steps : ℕ → List Step
far_steps offset = if nat_le offset most_near then [] else unless_inside (negsuc 33554431) ∷ []

-- the byte of a word, and the place of the word
abbrev pub split_steps : List Step
split_steps =
    run_act (combine at_r assign at_i)
    ∷ (run_act (combine at_r remainder (scratch score_four))
    ∷ (run_act (combine at_i divide (scratch score_four))
    ∷ []))

-- the address in a place, with this offset, from the window's beginning on
abbrev pub start_steps : ℕ → ℕ → List Step
start_steps a offset =
    run_act (load_place (codes "#i") a)
    ∷ (far_steps offset
    ++ (run_act (combine at_i subtract (scratch score_window)) ∷ (add_steps offset ++ split_steps)))

-- The first places of the window are taken for outside of it, as many as a near offset may lead over: so an address
-- below the window never counts as in it.
abbrev pub least_place : ℕ → ℕ
least_place offset = if nat_le offset most_near then (offset + 3) / 4 else 0

abbrev pub beside_window : ℕ → List Cond
beside_window offset = fails (in_range at_i (between (pos (least_place offset)) (pos 16383))) ∷ []

-- ---- the page becomes the window

-- the helper's own offset less, and more
abbrev pub take_steps : ℕ → List Step
take_steps offset = if is_told offset then run_act (decrease at_i offset) ∷ [] else []

abbrev pub return_steps : ℕ → List Step
return_steps offset = if is_told offset then run_act (increase at_i offset) ∷ [] else []

-- the address again, or what lies behind all pages
abbrev pub again_steps : ℕ → List Step
again_steps offset =
    run_act (combine at_i multiply (scratch score_four))
    ∷ (run_act (combine at_i add at_r)
    ∷ (run_act (combine at_i add (scratch score_window))
    ∷ (take_steps offset ++ (unless_inside (pos no_offset) ∷ return_steps offset))))

-- its page and its place, and the page is told
abbrev pub page_steps : List Step
page_steps =
    run_act (combine at_p assign at_i)
    ∷ (run_act (combine at_p divide (scratch score_page_words))
    ∷ (run_act (combine at_i remainder (scratch score_page_words))
    ∷ (run_act (set_site choice_site (compound no_fields))
    ∷ (run_act (keep_site (choice_at (codes "a0")) (codes "#p"))
    ∷ []))))

abbrev pub locate_steps : ℕ → List Step
locate_steps offset = again_steps offset ++ (split_steps ++ page_steps)

-- the length of a page, which is 0 where it doesn't stand
abbrev pub there_steps : List OpenStep
there_steps = open_act (open_load_site (codes "#c") told_page) ∷ []

abbrev pub there_item : Item
there_item = fill_item (codes "h_mem_there") choice_site there_steps

abbrev pub is_missing : List Cond
is_missing = holds (in_range at_c (exactly (pos 0))) ∷ []

abbrev pub is_there : List Cond
is_there = fails (in_range at_c (exactly (pos 0))) ∷ []

abbrev pub missing_step : Step
missing_step = when is_missing record_trap

-- where it stands it is the window then
abbrev pub move_steps : List Step
move_steps =
    missing_step
    ∷ (when is_there (keep_site (filling_at (codes "p")) (codes "#p"))
    ∷ (when is_there (combine (scratch score_window) assign at_p)
    ∷ (when is_there (combine (scratch score_window) multiply (scratch (scale_of stem_byte 2))) ∷ [])))

-- of an offset, whose number is in the helper's name where it has one of its own
abbrev pub move_items : ℕ → Items
move_items offset = join (steps_items (locate_steps offset)) (first there_item (steps_items move_steps))

abbrev pub move_name : ℕ → Text
move_name offset = if is_told offset then codes "h_mem_move_" ++ decimal offset else codes "h_mem_move"

-- ---- all of it

-- the address of an access in a place, with an offset below `no_offset`
abbrev pub find_items : Bool → ℕ → ℕ → Items
find_items sure a offset =
    join (steps_items (empty_steps sure))
    (join (steps_items (start_steps a offset))
    (first (call_when (beside_window offset) (move_name offset) (move_items offset))
    (first (step_item (run_act (keep_site (filling_at (codes "i")) (codes "#i")))) no_more)))

-- the address of an access in a place, with this offset; `sure` says that the memory has a page in any case
abbrev pub address_items : Bool → ℕ → ℕ → Items
address_items sure a offset = if nat_le no_offset offset then steps_items lost_steps else find_items sure a offset
