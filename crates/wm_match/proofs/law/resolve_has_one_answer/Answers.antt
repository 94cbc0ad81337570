use Rattle.wm_match.proofs.FaultLaws.{one_answer, told}
use Rattle.wm_match.proofs.law.resolve_has_one_answer.Goals as goal

pub returns : goal.returns
returns c = λ libraries main r s h g t u. one_answer libraries main r s h g (told libraries main r t) (told libraries main s u)
