use Rattle.cc_mem.proofs.AddressLemmas.{addresses_found}
use Rattle.cc_bulk.proofs.CopiedBytes.{copies_go_on}
use Rattle.cc_mem.proofs.Loads.{loads_done}
use Rattle.cc_mem.proofs.StoreLaw.{stores_do}
use Rattle.cc_bulk.proofs.fill_law.copies_go_on.Goals as goal

pub returns : goal.returns
returns c = copies_go_on (loads_done addresses_found) (stores_do addresses_found)
