use Rattle.cc_bulk.proofs.Told.{grows_told}
use Rattle.cc_bulk.proofs.grow_law.grows_are_told.Goals as goal

pub returns : goal.returns
returns c = grows_told
