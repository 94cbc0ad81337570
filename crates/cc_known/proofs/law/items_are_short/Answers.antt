use Rattle.cc_known.proofs.Choices.{chosen_short}
use Rattle.cc_known.proofs.law.items_are_short.Goals as goal

pub returns : goal.returns
returns c = chosen_short
