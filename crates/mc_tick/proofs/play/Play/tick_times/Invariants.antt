use Rattle.std.proofs.Common.{◌≡◌}
use Rattle.std.specs.Prelude.{replicate}
use Rattle.mc_cmd.specs.Pack.{tick}
use Rattle.mc_tick.specs.State.{after_all}
use Rattle.mc_tick.specs.PlayView.{play_state}
use Rattle.mc_tick.proofs.play.Play.tick_times.Given as goal

abbrev pub invariant-loop-left : goal.invariant-loop-left
invariant-loop-left l = after_all (play_state l.self) (replicate l.left (tick l.budget)) ≡ after_all (play_state l.initial.self) (replicate l.initial.left (tick l.budget))

abbrev pub decreases-loop-left : goal.decreases-loop-left
decreases-loop-left l = l.left
