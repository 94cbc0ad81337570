use Rattle.cc_move.proofs.LawLemmas.{moves_follow}
use Rattle.cc_move.proofs.law.callers_resume_with_results.Goals as goal

pub returns : goal.returns
returns c = record {
  results = moves_follow.results;
  resume = moves_follow.resumes;
  functions = moves_follow.functions;
  table = moves_follow.table;
}
