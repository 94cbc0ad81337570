use Rattle.cc_mem.proofs.AddressLemmas.{addresses_found}
use Rattle.cc_mem.proofs.Loads.{loads_done}
use Rattle.cc_mem.proofs.law.loads_are_done.Goals as goal

pub returns : goal.returns
returns c = loads_done addresses_found
