use Rattle.cc_tails.proofs.Laws.{tails_run_over}
use Rattle.cc_tails.proofs.law.items_run_over_cuts.Goals as goal

pub returns : goal.returns
returns c = tails_run_over
