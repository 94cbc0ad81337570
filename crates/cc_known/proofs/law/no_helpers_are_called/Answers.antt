use Rattle.cc_known.proofs.Choices.{chosen_named, cores_work}
use Rattle.cc_known.proofs.law.no_helpers_are_called.Goals as goal

pub returns-clause-named : goal.returns-clause-named
returns-clause-named c = chosen_named

pub returns-clause-work : goal.returns-clause-work
returns-clause-work c = cores_work
