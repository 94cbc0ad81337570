use Rattle.cc_call.proofs.LawLemmas.{calls_work}
use Rattle.cc_move.proofs.LawLemmas.{moves_follow}
use Rattle.cc_table.proofs.Laws.{numbers_found, targets_found}
use Rattle.cc_tails.proofs.Laws.{ends_named, guarded_run_on, holds_behind_cuts}
use Rattle.cc_simulate.proofs.Ends.{jobs_end}
use Rattle.cc_simulate.proofs.MemoryLaws.{memory_works}
use Rattle.cc_simulate.proofs.NumbersLaws.{numbers_work}
use Rattle.cc_simulate.proofs.Simulate.{pieces_simulate}
use Rattle.cc_simulate.proofs.Ways.{cuts_have_pieces}
use Rattle.cc_simulate.proofs.law.pieces_do_what_the_machine_does.Goals as goal

pub returns-clause-simulate : goal.returns-clause-simulate
returns-clause-simulate c = pieces_simulate holds_behind_cuts ends_named guarded_run_on moves_follow calls_work numbers_found targets_found memory_works numbers_work

pub returns-clause-ends : goal.returns-clause-ends
returns-clause-ends c = jobs_end calls_work

pub returns-clause-pieces : goal.returns-clause-pieces
returns-clause-pieces c = cuts_have_pieces
