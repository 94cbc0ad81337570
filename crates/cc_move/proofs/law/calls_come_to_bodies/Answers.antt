use Rattle.cc_move.proofs.LawLemmas.{moves_follow}
use Rattle.cc_move.proofs.law.calls_come_to_bodies.Goals as goal

pub returns : goal.returns
returns c = moves_follow.calls
