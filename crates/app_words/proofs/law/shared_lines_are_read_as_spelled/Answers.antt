use Rattle.app_words.proofs.SharedLemmas.{shared_are_spelled}
use Rattle.app_words.proofs.law.shared_lines_are_read_as_spelled.Goals as goal

pub returns : goal.returns
returns c = shared_are_spelled
