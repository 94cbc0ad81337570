use Rattle.cc_spots.proofs.CallerLaws.{callers_stand}
use Rattle.cc_spots.proofs.law.callers_stand.Goals as goal

pub returns : goal.returns
returns c = callers_stand
