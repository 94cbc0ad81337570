use Rattle.cc_mem.proofs.AddressLemmas.{addresses_found}
use Rattle.cc_mem.proofs.StoreLaw.{stores_do}
use Rattle.cc_mem.proofs.law.stores_are_done.Goals as goal

pub returns : goal.returns
returns c = stores_do addresses_found
