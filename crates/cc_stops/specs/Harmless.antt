-- Steps that change nothing that is seen of a job whose trap is recorded: they write places, scratch scores, and keys
-- that anyone may write or that name the next pieces. And they need no place but those that are scores.
use Rattle.std.specs.Prelude.{Bool, true, false, ◌&&◌, ◌||◌, nat_lt}
use Rattle.std.specs.List.{list_all}
use Rattle.std.specs.Str.{bytes_eq}
use Rattle.mc_cmd.specs.Form.{Text}
use Rattle.cc_line.specs.Sight.{Store, in_io, in_memory, in_rest}
use Rattle.cc_line.specs.Key.{key_next, key_follows, is_work, is_work_key}
use Rattle.cc_line.specs.Place.{score_places, Spot, scratch, placed}
use Rattle.cc_line.specs.Step.{Act, set_spot, increase, decrease, combine, set_place, copy_place, load_place}
use Rattle.cc_line.specs.Step.{keep_place, load_site, keep_site, place_to_site, site_to_place, set_site, copy_site}
use Rattle.cc_line.specs.Step.{append_value_to, append_site, erase_site, Check, in_range, compare, stands, Cond, holds}
use Rattle.cc_line.specs.Step.{fails, Step, run_act, when, stop_when}
use Rattle.cc_line.specs.Item.{Item, step_item}

-- the keys of which nothing is seen behind a trap
abbrev pub is_unseen : Store → Text → Bool
is_unseen in_rest k = bytes_eq key_next k || (bytes_eq key_follows k || is_work_key in_rest k)
is_unseen in_io k = false
is_unseen in_memory k = false

-- a spot that stands wherever a pack runs, and one that may be written besides
abbrev pub spot_stands : Spot → Bool
spot_stands (scratch h) = true
spot_stands (placed i) = nat_lt i score_places

abbrev pub spot_is_unseen : Spot → Bool
spot_is_unseen (scratch h) = is_work h
spot_is_unseen (placed i) = nat_lt i score_places

abbrev pub act_is_harmless : Act → Bool
act_is_harmless (set_spot x z) = spot_is_unseen x
act_is_harmless (increase x n) = spot_is_unseen x
act_is_harmless (decrease x n) = spot_is_unseen x
act_is_harmless (combine x op y) = spot_is_unseen x && spot_stands y
act_is_harmless (set_place i z) = nat_lt i score_places
act_is_harmless (copy_place i j) = nat_lt i score_places && nat_lt j score_places
act_is_harmless (load_place h i) = is_work h && nat_lt i score_places
act_is_harmless (keep_place i h) = nat_lt i score_places
act_is_harmless (load_site h p) = is_work h
act_is_harmless (keep_site p h) = is_unseen p.store p.name
act_is_harmless (place_to_site p i) = is_unseen p.store p.name && nat_lt i score_places
act_is_harmless (site_to_place i p) = nat_lt i score_places
act_is_harmless (set_site p t) = is_unseen p.store p.name
act_is_harmless (copy_site p q) = is_unseen p.store p.name
act_is_harmless (append_value_to p t) = is_unseen p.store p.name
act_is_harmless (append_site p q) = is_unseen p.store p.name
act_is_harmless (erase_site p) = is_unseen p.store p.name
act_is_harmless _ = false

abbrev pub check_stands : Check → Bool
check_stands (in_range x r) = spot_stands x
check_stands (compare x c y) = spot_stands x && spot_stands y
check_stands (stands p) = true

abbrev pub cond_stands : Cond → Bool
cond_stands (holds c) = check_stands c
cond_stands (fails c) = check_stands c

abbrev pub step_is_harmless : Step → Bool
step_is_harmless (run_act a) = act_is_harmless a
step_is_harmless (when cs a) = list_all cond_stands cs && act_is_harmless a
step_is_harmless (stop_when cs) = list_all cond_stands cs

-- no helper is
abbrev pub item_is_harmless : Item → Bool
item_is_harmless (step_item x) = step_is_harmless x
item_is_harmless _ = false
