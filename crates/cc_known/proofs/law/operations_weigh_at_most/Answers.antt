use Rattle.cc_known.proofs.Choices.{chosen_weigh}
use Rattle.cc_known.proofs.law.operations_weigh_at_most.Goals as goal

pub returns : goal.returns
returns c = chosen_weigh
