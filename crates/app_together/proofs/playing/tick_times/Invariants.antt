use Rattle.std.proofs.Common.{◌≡◌}
use Rattle.std.specs.Prelude.{replicate}
use Rattle.mc_together.specs.Together.{after_events, tick}
use Rattle.pk_multi.specs.State.{state_of}
use Rattle.app_together.specs.steps.Steps.{IsPlaying, standing_so}
use Rattle.app_together.proofs.playing.tick_times.Given as goal

abbrev pub invariant-loop-left : goal.invariant-loop-left
invariant-loop-left l =
    let s = state_of l.programs in
    let z = state_of l.initial.programs in
    record {
      playing : IsPlaying s;
      packs : s.packs ≡ z.packs;
      so_far : standing_so s (after_events s.packs (replicate l.left (tick l.budget)) s.standing) ≡ standing_so z (after_events z.packs (replicate l.initial.left (tick l.budget)) z.standing);
    }

abbrev pub decreases-loop-left : goal.decreases-loop-left
decreases-loop-left l = l.left
