use Rattle.cc_call.proofs.LawLemmas.{calls_work}
use Rattle.cc_call.proofs.law.frames_are_saved.Goals as goal

pub returns : goal.returns
returns c = record { push = calls_work.push; restore = calls_work.restore }
