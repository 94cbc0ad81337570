use Rattle.cc_move.proofs.LawLemmas.{moves_follow}
use Rattle.cc_move.proofs.law.standings_show_places.Goals as goal

pub returns : goal.returns
returns c = record { shown = moves_follow.shown; one = moves_follow.one }
