use Rattle.cc_bulk.proofs.Reached.{reaches_tested}
use Rattle.cc_bulk.proofs.fill_law.reaches_are_tested.Goals as goal

pub returns : goal.returns
returns c = reaches_tested
