use Rattle.cc_sched.proofs.ChargeLemmas.{pays}
use Rattle.cc_sched.proofs.law.charges_cover_what_is_run.Goals as goal

pub returns : goal.returns
returns c = pays
