use Rattle.cc_sched.proofs.Turns.{turn, idle}
use Rattle.cc_sched.proofs.law.turns_run_a_piece.Goals as goal

pub returns-clause-runs : goal.returns-clause-runs
returns-clause-runs c = λ functions ns program piece n d. turn functions ns piece n d program

pub returns-clause-rests : goal.returns-clause-rests
returns-clause-rests c = idle
