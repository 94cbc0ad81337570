use Rattle.cc_sched.proofs.Short.{charge_short, functions_short}
use Rattle.cc_sched.proofs.law.items_are_short.Goals as goal

pub returns-clause-functions : goal.returns-clause-functions
returns-clause-functions c = functions_short

pub returns-clause-charges : goal.returns-clause-charges
returns-clause-charges c = charge_short
