-- The play of a workload's pack, from a standing on.
use Rattle.std.specs.Prelude.{◌≡◌, ◌⊎◌, true, false}
use Rattle.mc_cmd.specs.Pack.{Pack, Standing}
use Rattle.mc_tick.specs.StateView.{IsTold, state_of}
use Rattle.mc_tick.specs.declared.resumed.Resumed.{Resumed}
use Rattle.app_words.specs.Report.{answer_of}
use Rattle.app_words.specs.Workload.{CallsMain, is_running, most_ticks, waited}

-- the play of the pack is where this holds
pub record IsPlayedOut (pack : Pack) (Ends : Standing → Type 0) (r : Resumed) : Type 0 where
  pub same : (state_of r).pack ≡ pack
  pub told : IsTold r
  pub ends : Ends (state_of r).standing

-- where the play ends that stands so after the pack was loaded
abbrev pub EndsFrom : Pack → Standing → Standing → Type 0
EndsFrom pack s t =
    ((is_running (answer_of pack (waited pack most_ticks s)) ≡ true) × (t ≡ waited pack most_ticks s))
    ⊎ ((is_running (answer_of pack (waited pack most_ticks s)) ≡ false)
    × CallsMain pack (waited pack most_ticks s) t)
