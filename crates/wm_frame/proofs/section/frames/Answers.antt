use Rattle.wm_frame.proofs.AnswerLaws.{answer_framed, only_answer}
use Rattle.wm_frame.proofs.section.frames.Goals as goal

pub returns-clause-framed : goal.returns-clause-framed
returns-clause-framed c = answer_framed c.args.bytes.now c.divide.result c.divide.ensures

pub returns-clause-only : goal.returns-clause-only
returns-clause-only c = only_answer c.args.bytes.now c.divide.result c.divide.ensures
