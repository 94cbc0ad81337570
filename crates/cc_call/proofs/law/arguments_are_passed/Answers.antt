use Rattle.cc_call.proofs.LawLemmas.{calls_work}
use Rattle.cc_call.proofs.law.arguments_are_passed.Goals as goal

pub returns : goal.returns
returns c = record { pass = calls_work.pass; opening = calls_work.opening }
