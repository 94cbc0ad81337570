use Rattle.cc_access.proofs.StoresDone.{stores_done}
use Rattle.cc_access.proofs.law.stores_are_done.Goals as goal

pub returns : goal.returns
returns c = stores_done
