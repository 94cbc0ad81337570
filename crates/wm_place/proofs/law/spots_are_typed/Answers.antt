use Rattle.wm_place.proofs.KindLemmas.{spot_typed}
use Rattle.wm_place.proofs.law.spots_are_typed.Goals as goal

pub returns : goal.returns
returns c = spot_typed
