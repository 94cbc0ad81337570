use Rattle.cc_told.proofs.Standings.{one_standing, one_view}
use Rattle.cc_told.proofs.law.one_standing.Goals as goal

pub returns : goal.returns
returns c = record { one = one_standing; seen = one_view }
