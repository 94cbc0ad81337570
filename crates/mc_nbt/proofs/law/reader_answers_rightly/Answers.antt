use Rattle.mc_nbt.proofs.ReadingSound.{answers}
use Rattle.mc_nbt.proofs.law.reader_answers_rightly.Goals as goal

pub returns : goal.returns
returns c = answers
