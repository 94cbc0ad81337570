use Rattle.cc_bulk.proofs.Appended.{pages_appended}
use Rattle.cc_bulk.proofs.grow_law.pages_are_appended.Goals as goal

pub returns : goal.returns
returns c = pages_appended
