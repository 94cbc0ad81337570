use Rattle.cc_call.proofs.LawLemmas.{calls_work}
use Rattle.cc_call.proofs.law.results_are_handed.Goals as goal

pub returns : goal.returns
returns c = calls_work.hand
