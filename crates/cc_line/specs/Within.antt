-- Steps and items that name no place from one on, and leave the places as many as they are.
use Rattle.std.specs.Prelude.{ℕ, List, Bool, true, false, ◌&&◌, nat_lt}
use Rattle.std.specs.List.{list_all}
use Rattle.cc_line.specs.Place.{Spot, scratch, placed}
use Rattle.cc_line.specs.Step.{Act, set_spot, increase, decrease, combine, set_place, copy_place, load_place}
use Rattle.cc_line.specs.Step.{keep_place}
use Rattle.cc_line.specs.Step.{load_site, keep_site, place_to_site, site_to_place, set_site, copy_site, append_value_to}
use Rattle.cc_line.specs.Step.{append_site, erase_site, open_place, make_list, save_list, restore_list, Check, in_range}
use Rattle.cc_line.specs.Step.{compare, stands, Cond, holds, fails, Step, run_act, when, stop_when}
use Rattle.cc_line.specs.Item.{Item, step_item, call_item, call_when, fill_item, fill_when, Items, no_more, first}

abbrev pub spot_within : ℕ → Spot → Bool
spot_within n (scratch h) = true
spot_within n (placed i) = nat_lt i n

-- a place that is opened and a list of places that is made or taken back change how many there are
abbrev pub act_within : ℕ → Act → Bool
act_within n (set_spot x z) = spot_within n x
act_within n (increase x k) = spot_within n x
act_within n (decrease x k) = spot_within n x
act_within n (combine x op y) = spot_within n x && spot_within n y
act_within n (set_place i z) = nat_lt i n
act_within n (copy_place i j) = nat_lt i n && nat_lt j n
act_within n (load_place h i) = nat_lt i n
act_within n (keep_place i h) = nat_lt i n
act_within n (load_site h p) = true
act_within n (keep_site p h) = true
act_within n (place_to_site p i) = nat_lt i n
act_within n (site_to_place i p) = nat_lt i n
act_within n (set_site p t) = true
act_within n (copy_site p q) = true
act_within n (append_value_to p t) = true
act_within n (append_site p q) = true
act_within n (erase_site p) = true
act_within n (open_place i) = false
act_within n (make_list zs) = false
act_within n (save_list p) = true
act_within n (restore_list p) = false

abbrev pub check_within : ℕ → Check → Bool
check_within n (in_range x r) = spot_within n x
check_within n (compare x c y) = spot_within n x && spot_within n y
check_within n (stands p) = true

abbrev pub cond_within : ℕ → Cond → Bool
cond_within n (holds c) = check_within n c
cond_within n (fails c) = check_within n c

abbrev pub step_within : ℕ → Step → Bool
step_within n (run_act a) = act_within n a
step_within n (when cs a) = list_all (cond_within n) cs && act_within n a
step_within n (stop_when cs) = list_all (cond_within n) cs

abbrev pub steps_within : ℕ → List Step → Bool
steps_within n xs = list_all (step_within n) xs

-- a helper that is filled needs ints besides
abbrev mutual
  pub item_within : ℕ → Item → Bool
  item_within n (step_item x) = step_within n x
  item_within n (call_item f xs) = items_within n xs
  item_within n (call_when cs f xs) = list_all (cond_within n) cs && items_within n xs
  item_within n (fill_item f p xs) = false
  item_within n (fill_when cs f p xs) = false

  pub items_within : ℕ → Items → Bool
  items_within n no_more = true
  items_within n (first x xs) = item_within n x && items_within n xs
