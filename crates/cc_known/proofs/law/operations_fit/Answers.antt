use Rattle.cc_known.proofs.Choices.{chosen_fit}
use Rattle.cc_known.proofs.law.operations_fit.Goals as goal

pub returns : goal.returns
returns c = chosen_fit
