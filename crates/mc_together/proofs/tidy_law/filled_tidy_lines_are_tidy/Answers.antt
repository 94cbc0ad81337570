use Rattle.mc_together.proofs.LineLemmas.{filled_clean}
use Rattle.mc_together.proofs.tidy_law.filled_tidy_lines_are_tidy.Goals as goal

pub returns : goal.returns
returns g = λ ns t ps fs u c said tidy bare fill says. (filled_clean ns t ps fs u said tidy bare fill c says).tidy
