use Rattle.cc_access.proofs.LoadsDone.{loads_done}
use Rattle.cc_access.proofs.law.loads_are_done.Goals as goal

pub returns : goal.returns
returns c = loads_done
