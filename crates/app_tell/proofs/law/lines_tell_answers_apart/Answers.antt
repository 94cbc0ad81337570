use Rattle.app_tell.proofs.AlikeLemmas.{shown_alike}
use Rattle.app_tell.proofs.law.lines_tell_answers_apart.Goals as goal

pub returns : goal.returns
returns c = shown_alike
