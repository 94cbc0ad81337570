use Rattle.cc_tails.proofs.Laws.{guarded_run_on}
use Rattle.cc_tails.proofs.law.items_run_on.Goals as goal

pub returns : goal.returns
returns c = guarded_run_on
