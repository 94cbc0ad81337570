use Rattle.std.proofs.Common.{◌≡◌, drop}
use Rattle.app_words.specs.SharedReport.{place_of}
use Rattle.pk_multi.specs.State.{state_of}
use Rattle.app_together.proofs.TogetherLemmas.{place_from}
use Rattle.app_together.proofs.playing.place_of.Given as goal

abbrev pub invariant-loop-who : goal.invariant-loop-who
invariant-loop-who l = place_from l.ns l.who (drop l.who (state_of l.programs).packs) ≡ place_of l.ns (state_of l.programs).packs
