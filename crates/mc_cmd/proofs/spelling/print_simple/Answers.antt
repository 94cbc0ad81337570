use Rattle.mc_cmd.proofs.spelling.print_simple.Goals as goal

pub returns-in-ScoreGet : goal.returns-in-ScoreGet
returns-in-ScoreGet c = rw c.in-ScoreGet.is c.print_score.ensures
