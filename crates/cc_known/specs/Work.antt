-- Steps that write numbers to working scores and read no others: no place, no key and no score of the scheduler.
use Rattle.std.specs.Prelude.{List, Bool, false, ◌&&◌}
use Rattle.std.specs.List.{list_all}
use Rattle.cc_line.specs.Key.{is_work}
use Rattle.cc_line.specs.Place.{Spot, placed, scratch}
use Rattle.cc_line.specs.Step.{Act, combine, decrease, increase, set_spot, Check, in_range, Cond, fails, holds, Step}
use Rattle.cc_line.specs.Step.{run_act, stop_when, when}

abbrev pub works_on : Spot → Bool
works_on (scratch h) = is_work h
works_on (placed i) = false

abbrev pub act_works : Act → Bool
act_works (set_spot x z) = works_on x
act_works (increase x n) = works_on x
act_works (decrease x n) = works_on x
act_works (combine x op y) = works_on x && works_on y
act_works _ = false

abbrev pub check_works : Check → Bool
check_works (in_range x r) = works_on x
check_works _ = false

abbrev pub cond_works : Cond → Bool
cond_works (holds c) = check_works c
cond_works (fails c) = check_works c

abbrev pub step_works : Step → Bool
step_works (run_act a) = act_works a
step_works (when cs a) = list_all cond_works cs && act_works a
step_works (stop_when cs) = false

abbrev pub steps_work : List Step → Bool
steps_work xs = list_all step_works xs
