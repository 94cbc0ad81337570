use Rattle.cc_cut.proofs.RankLemmas.{frames_have_room}
use Rattle.cc_cut.proofs.law.frames_have_room.Goals as goal

pub returns : goal.returns
returns c = frames_have_room
