-- The laws of moves and ways, and of calls and returns, all together, for the crates above.
use Rattle.cc_move.specs.Law.{MovesFollow}
use Rattle.cc_move.proofs.BranchLemmas.{branches_come, returns_have_results, ends_leave}
use Rattle.cc_move.proofs.CallLemmas.{calls_come, callees_come}
use Rattle.cc_move.proofs.CourseLemmas.{results_have_types, functions_stay, table_stays}
use Rattle.cc_move.proofs.MoveLemmas.{onward_comes, block_comes, arm_comes}
use Rattle.cc_move.proofs.OpenLemmas.{calls_open, indirect_calls_open}
use Rattle.cc_move.proofs.ResumeLemmas.{callers_resume}
use Rattle.cc_move.proofs.StandLemmas.{standings_show, paths_tell}

pub moves_follow : MovesFollow
moves_follow = record {
  shown = standings_show;
  one = paths_tell;
  onward = onward_comes;
  in_block = block_comes;
  in_arm = arm_comes;
  branch = branches_come;
  returns = returns_have_results;
  leave = ends_leave;
  calls = calls_come;
  opens = calls_open;
  opens_indirect = indirect_calls_open;
  resumes = callers_resume;
  results = results_have_types;
  functions = functions_stay;
  callees = callees_come;
  table = table_stays;
}
