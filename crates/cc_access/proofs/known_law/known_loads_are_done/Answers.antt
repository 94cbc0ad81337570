use Rattle.cc_access.proofs.KnownLaws.{loads_by_done}
use Rattle.cc_access.proofs.known_law.known_loads_are_done.Goals as goal

pub returns : goal.returns
returns c = loads_by_done
