use Rattle.cc_call.proofs.LawLemmas.{calls_work}
use Rattle.cc_call.proofs.law.frames_are_limited.Goals as goal

pub returns : goal.returns
returns c = calls_work.depth
