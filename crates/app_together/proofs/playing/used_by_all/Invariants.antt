use Rattle.std.proofs.Common.{◌≡◌}
use Rattle.mc_cmd.specs.Pack.{counted}
use Rattle.app_words.specs.SharedReport.{sum_used}
use Rattle.pk_multi.specs.State.{state_of}
use Rattle.app_together.proofs.playing.used_by_all.Given as goal

abbrev pub invariant-loop-who : goal.invariant-loop-who
invariant-loop-who l = l.used ≡ counted (sum_used (state_of l.programs).standing.counts l.who)
