use Rattle.cc_table.proofs.Laws.{targets_found}
use Rattle.cc_table.proofs.law.targets_are_found.Goals as goal

pub returns : goal.returns
returns c = targets_found
