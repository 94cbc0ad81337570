use Rattle.std.proofs.Common.{◌≡◌, length}
use Rattle.mc_world.specs.WorldView.{seen}
use Rattle.pk_sight.specs.steps.Parts.{AreScores}
use Rattle.pk_sight.proofs.frame.first_places.Given as goal

-- so many places are read, and these are their scores
abbrev pub invariant-loop-place : goal.invariant-loop-place
invariant-loop-place l =
    record {
      read : length l.places.items ≡ l.place;
      scores : AreScores (λ h. (seen l.world).scores h l.names.ns) 0 l.places.items;
    }
