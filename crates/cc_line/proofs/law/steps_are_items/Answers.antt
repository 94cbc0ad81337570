use Rattle.cc_line.proofs.RunLemmas.{steps_run, steps_ready, items_then}
use Rattle.cc_line.proofs.WithinLemmas.{steps_found, items_found}
use Rattle.cc_line.proofs.law.steps_are_items.Goals as goal

pub returns-clause-run : goal.returns-clause-run
returns-clause-run c = steps_run

pub returns-clause-ready : goal.returns-clause-ready
returns-clause-ready c = steps_ready

pub returns-clause-within_steps : goal.returns-clause-within_steps
returns-clause-within_steps c = steps_found

pub returns-clause-within_items : goal.returns-clause-within_items
returns-clause-within_items c = items_found

pub returns-clause-joined : goal.returns-clause-joined
returns-clause-joined c = items_then
