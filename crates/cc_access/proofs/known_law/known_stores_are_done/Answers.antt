use Rattle.cc_access.proofs.KnownLaws.{stores_by_done}
use Rattle.cc_access.proofs.known_law.known_stores_are_done.Goals as goal

pub returns : goal.returns
returns c = stores_by_done
