use Rattle.cc_stops.proofs.Runs.{runs_alike}
use Rattle.cc_stops.proofs.law.fewer_stops_change_nothing_seen.Goals as goal

pub returns : goal.returns
returns c = runs_alike
