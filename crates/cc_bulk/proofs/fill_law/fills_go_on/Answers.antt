use Rattle.cc_mem.proofs.AddressLemmas.{addresses_found}
use Rattle.cc_bulk.proofs.FilledBytes.{fills_go_on}
use Rattle.cc_mem.proofs.StoreLaw.{stores_do}
use Rattle.cc_bulk.proofs.fill_law.fills_go_on.Goals as goal

pub returns : goal.returns
returns c = fills_go_on (stores_do addresses_found)
