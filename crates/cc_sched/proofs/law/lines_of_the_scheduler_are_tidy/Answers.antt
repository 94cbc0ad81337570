use Rattle.cc_sched.proofs.TidyLemmas.{functions_named, functions_tidy}
use Rattle.cc_sched.proofs.law.lines_of_the_scheduler_are_tidy.Goals as goal

pub returns-clause-lines : goal.returns-clause-lines
returns-clause-lines c = functions_tidy

pub returns-clause-names : goal.returns-clause-names
returns-clause-names c = functions_named
