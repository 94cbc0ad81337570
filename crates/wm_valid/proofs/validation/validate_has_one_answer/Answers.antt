use Rattle.wm_valid.proofs.AnswerLaws.{one_answer}
use Rattle.wm_valid.proofs.validation.validate_has_one_answer.Goals as goal

pub returns : goal.returns
returns c = one_answer
