-- Which steps have a text in the grammar, whatever the namespace, and a tidy one. No test looks at a namespace.
use Rattle.std.specs.Prelude.{ℕ, List, [], ◌∷◌, length, Bool, true, false, not, ◌&&◌, nat_lt, nat_le}
use Rattle.std.specs.List.{list_all}
use Rattle.mc_nbt.specs.Tree.{Tree, Part}
use Rattle.mc_nbt.specs.Path.{is_path}
use Rattle.mc_nbt.specs.Shape.{is_tree}
use Rattle.mc_nbt.specs.Word.{is_int}
use Rattle.mc_nbt.specs.Spelling.{tree_text}
use Rattle.mc_cmd.specs.Form.{Text, lacks}
use Rattle.mc_cmd.specs.Command.{Op, swap}
use Rattle.mc_cmd.specs.Word.{is_holder, range_fits}
use Rattle.cc_line.specs.Place.{score_places, is_scratch, Spot, scratch, placed}
use Rattle.cc_line.specs.State.{ints, is_frame, Site, site_path}
use Rattle.cc_line.specs.Step.{Act, set_spot, increase, decrease, combine, set_place, copy_place, load_place}
use Rattle.cc_line.specs.Step.{keep_place}
use Rattle.cc_line.specs.Step.{load_site, keep_site, place_to_site, site_to_place, set_site, copy_site, append_value_to}
use Rattle.cc_line.specs.Step.{append_site, erase_site, open_place, make_list, save_list, restore_list, Check, in_range}
use Rattle.cc_line.specs.Step.{compare, stands, Cond, holds, fails, Step, run_act, when, stop_when}

-- a place's number is an int
abbrev pub place_fits : ℕ → Bool
place_fits i = nat_lt i 2147483648

-- a holder that is no place's
abbrev pub scratch_fits : Text → Bool
scratch_fits h = is_scratch h && is_holder h

abbrev pub spot_fits : Spot → Bool
spot_fits (scratch h) = scratch_fits h
spot_fits (placed i) = nat_lt i score_places

-- a path that isn't the frame's
abbrev pub site_fits : Site → Bool
site_fits p = is_path (site_path p) && not (is_frame p.store p.name)

-- a tree that may stand in a storage, short and without a quotation mark
abbrev pub tree_fits : Tree → Bool
tree_fits t = is_tree t && (nat_le (length (tree_text t)) 400000 && lacks 34 (tree_text t))

-- the operation that changes its source has no step
abbrev pub is_swap : Op → Bool
is_swap swap = true
is_swap _ = false

-- a `remove` is below a key, for a key is never removed
abbrev pub has_parts : List Part → Bool
has_parts [] = false
has_parts (p ∷ ps) = true

abbrev pub act_fits : Act → Bool
act_fits (set_spot x z) = spot_fits x && is_int z
act_fits (increase x n) = spot_fits x && nat_lt n 2147483648
act_fits (decrease x n) = spot_fits x && nat_lt n 2147483648
act_fits (combine x op y) = spot_fits x && (spot_fits y && not (is_swap op))
act_fits (set_place i z) = place_fits i && is_int z
act_fits (copy_place i j) = place_fits i && place_fits j
act_fits (load_place h i) = scratch_fits h && place_fits i
act_fits (keep_place i h) = place_fits i && scratch_fits h
act_fits (load_site h p) = scratch_fits h && site_fits p
act_fits (keep_site p h) = site_fits p && scratch_fits h
act_fits (place_to_site p i) = site_fits p && place_fits i
act_fits (site_to_place i p) = place_fits i && site_fits p
act_fits (set_site p t) = site_fits p && tree_fits t
act_fits (copy_site p q) = site_fits p && site_fits q
act_fits (append_value_to p t) = site_fits p && tree_fits t
act_fits (append_site p q) = site_fits p && site_fits q
act_fits (erase_site p) = site_fits p && has_parts p.parts
act_fits (open_place i) = nat_lt i score_places
act_fits (make_list zs) = tree_fits (ints zs)
act_fits (save_list p) = site_fits p
act_fits (restore_list p) = site_fits p

abbrev pub check_fits : Check → Bool
check_fits (in_range x r) = spot_fits x && range_fits r
check_fits (compare x c y) = spot_fits x && spot_fits y
check_fits (stands p) = site_fits p

abbrev pub cond_fits : Cond → Bool
cond_fits (holds c) = check_fits c
cond_fits (fails c) = check_fits c

-- one to sixteen conditions
abbrev pub conds_fit : List Cond → Bool
conds_fit cs = list_all cond_fits cs && (nat_le 1 (length cs) && nat_le (length cs) 16)

abbrev pub step_fits : Step → Bool
step_fits (run_act a) = act_fits a
step_fits (when cs a) = conds_fit cs && act_fits a
step_fits (stop_when cs) = conds_fit cs

abbrev pub steps_fit : List Step → Bool
steps_fit xs = list_all step_fits xs
