use Rattle.mc_cmd.proofs.spelling.print_sub.Goals as goal

pub returns-in-StoreScore : goal.returns-in-StoreScore
returns-in-StoreScore c = rw c.in-StoreScore.is c.print_score_front.ensures
