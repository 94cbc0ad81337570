use Rattle.cc_sched.proofs.HasLemmas.{has_calls, has_sched}
use Rattle.cc_sched.proofs.law.packs_with_its_functions_have_the_scheduler.Goals as goal

pub returns-clause-sched : goal.returns-clause-sched
returns-clause-sched c = has_sched

pub returns-clause-calls : goal.returns-clause-calls
returns-clause-calls c = has_calls
