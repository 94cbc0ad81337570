-- What the lines of acts on places weigh, by where the places are.
use Rattle.std.proofs.Common.{◌≡◌, ℕ, [], Bool, true, false, refl}
use Rattle.std.specs.Prelude.{ℤ, if◌then◌else◌, nat_lt, ◌-◌}
use Rattle.mc_cmd.specs.Form.{Text}
use Rattle.mc_cmd.specs.Chain.{cmd_weight}
use Rattle.cc_line.specs.Place.{score_places, in_score, in_list}
use Rattle.cc_line.specs.State.{Site}
use Rattle.cc_line.specs.Step.{set_place, copy_place, load_place, keep_place, place_to_site, site_to_place, run_act, said_command, set_home, load_home, keep_home, copy_home, home_to_site, site_to_home, step_weight}

pub set_weighs : (i : ℕ) (z : ℤ) → step_weight (run_act (set_place i z)) ≡ 1
set_weighs i z = go (nat_lt i score_places)
  where
    go : (b : Bool) → cmd_weight (said_command (set_home [] (if b then in_score i else in_list (i - score_places)) z)) ≡ 1
    go true = refl
    go false = refl

pub load_weighs : (h : Text) (i : ℕ) → step_weight (run_act (load_place h i)) ≡ (if true then (if nat_lt i score_places then 1 else 2) else (if nat_lt i score_places then 2 else 1))
load_weighs h i = go (nat_lt i score_places)
  where
    go : (b : Bool) → cmd_weight (said_command (load_home [] h (if b then in_score i else in_list (i - score_places)))) ≡ (if b then 1 else 2)
    go true = refl
    go false = refl

pub keep_weighs : (i : ℕ) (h : Text) → step_weight (run_act (keep_place i h)) ≡ (if nat_lt i score_places then (if true then 1 else 2) else (if true then 2 else 1))
keep_weighs i h = go (nat_lt i score_places)
  where
    go : (b : Bool) → cmd_weight (said_command (keep_home [] (if b then in_score i else in_list (i - score_places)) h)) ≡ (if b then 1 else 2)
    go true = refl
    go false = refl

pub copy_weighs : (i j : ℕ) → step_weight (run_act (copy_place i j)) ≡ (if nat_lt i score_places then (if nat_lt j score_places then 1 else 2) else (if nat_lt j score_places then 2 else 1))
copy_weighs i j = go (nat_lt i score_places) (nat_lt j score_places)
  where
    go : (b d : Bool) → cmd_weight (said_command (copy_home [] (if b then in_score i else in_list (i - score_places)) (if d then in_score j else in_list (j - score_places)))) ≡ (if b then (if d then 1 else 2) else (if d then 2 else 1))
    go true true = refl
    go true false = refl
    go false true = refl
    go false false = refl

pub to_site_weighs : (p : Site) (i : ℕ) → step_weight (run_act (place_to_site p i)) ≡ (if nat_lt i score_places then 2 else 1)
to_site_weighs p i = go (nat_lt i score_places)
  where
    go : (b : Bool) → cmd_weight (said_command (home_to_site [] p (if b then in_score i else in_list (i - score_places)))) ≡ (if b then 2 else 1)
    go true = refl
    go false = refl

pub to_place_weighs : (i : ℕ) (p : Site) → step_weight (run_act (site_to_place i p)) ≡ (if nat_lt i score_places then 2 else 1)
to_place_weighs i p = go (nat_lt i score_places)
  where
    go : (b : Bool) → cmd_weight (said_command (site_to_home [] (if b then in_score i else in_list (i - score_places)) p)) ≡ (if b then 2 else 1)
    go true = refl
    go false = refl

-- what the acts weigh that speak of places
pub ruleset acts_weigh = (set_weighs, copy_weighs, load_weighs, keep_weighs, to_site_weighs, to_place_weighs)
