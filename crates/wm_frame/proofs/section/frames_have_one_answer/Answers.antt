use Rattle.wm_frame.proofs.AnswerLaws.{one_answer}
use Rattle.wm_frame.proofs.section.frames_have_one_answer.Goals as goal

pub returns : goal.returns
returns c = one_answer
