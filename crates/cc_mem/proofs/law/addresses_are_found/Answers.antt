use Rattle.cc_mem.proofs.AddressLemmas.{addresses_found}
use Rattle.cc_mem.proofs.law.addresses_are_found.Goals as goal

pub returns : goal.returns
returns c = addresses_found
