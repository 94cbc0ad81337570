use Rattle.cc_call.proofs.LawLemmas.{calls_work}
use Rattle.cc_move.proofs.LawLemmas.{moves_follow}
use Rattle.cc_simulate.proofs.CallsEnter.{calls_enter}
use Rattle.cc_simulate.proofs.law.calls_enter_bodies.Goals as goal

pub returns : goal.returns
returns c = calls_enter moves_follow calls_work
