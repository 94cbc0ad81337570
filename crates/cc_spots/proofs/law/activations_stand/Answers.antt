use Rattle.cc_spots.proofs.StandingLaws.{activations_stand, standings_are_seen, standings_fit}
use Rattle.cc_spots.proofs.law.activations_stand.Goals as goal

pub returns : goal.returns
returns c = record { stand = activations_stand; fit = standings_fit; seen = standings_are_seen }
