use Rattle.cc_call.proofs.LawLemmas.{calls_work}
use Rattle.cc_call.proofs.law.jobs_begin_and_end.Goals as goal

pub returns : goal.returns
returns c = record { base = calls_work.base; done = calls_work.done }
