use Rattle.wm_flat.proofs.SpellingLaws.{numbers_in_range}
use Rattle.wm_flat.proofs.typing_law.spelled_numbers_are_in_range.Goals as goal

pub returns : goal.returns
returns c = numbers_in_range
