use Rattle.cc_move.proofs.LawLemmas.{moves_follow}
use Rattle.cc_move.proofs.law.moves_follow_ways.Goals as goal

pub returns : goal.returns
returns c = record {
  onward = moves_follow.onward;
  in_block = moves_follow.in_block;
  in_arm = moves_follow.in_arm;
  branch = moves_follow.branch;
  returns = moves_follow.returns;
  leave = moves_follow.leave;
}
