use Rattle.cc_call.proofs.LawLemmas.{calls_work}
use Rattle.cc_call.proofs.law.arguments_are_fetched.Goals as goal

pub returns : goal.returns
returns c = record { making = calls_work.making; fetch = calls_work.fetch }
