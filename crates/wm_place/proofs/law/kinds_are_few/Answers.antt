use Rattle.wm_place.proofs.KindLemmas.{room_at, no_float_at}
use Rattle.wm_place.proofs.law.kinds_are_few.Goals as goal

pub returns : goal.returns
returns c = record { few = room_at; ints = no_float_at }
