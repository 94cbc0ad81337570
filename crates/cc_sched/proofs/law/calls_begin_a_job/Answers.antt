use Rattle.cc_sched.proofs.Calls.{call_does, refused, begins}
use Rattle.cc_sched.proofs.law.calls_begin_a_job.Goals as goal

pub returns-clause-runs : goal.returns-clause-runs
returns-clause-runs c = call_does

pub returns-clause-refused : goal.returns-clause-refused
returns-clause-refused c = refused

pub returns-clause-begins : goal.returns-clause-begins
returns-clause-begins c = begins
