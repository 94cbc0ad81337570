use Rattle.cc_known.proofs.Choices.{chosen_perform}
use Rattle.cc_known.proofs.law.operations_perform.Goals as goal

pub returns : goal.returns
returns c = chosen_perform
