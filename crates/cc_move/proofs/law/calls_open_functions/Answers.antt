use Rattle.cc_move.proofs.LawLemmas.{moves_follow}
use Rattle.cc_move.proofs.law.calls_open_functions.Goals as goal

pub returns : goal.returns
returns c = record {
  direct = moves_follow.opens;
  indirect = moves_follow.opens_indirect;
  callees = moves_follow.callees;
}
