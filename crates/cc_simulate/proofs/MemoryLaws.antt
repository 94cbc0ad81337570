-- The laws of memory hold.
use Rattle.cc_access.proofs.KnownLaws.{loads_by_done, stores_by_done}
use Rattle.cc_mem.proofs.AddressLemmas.{addresses_found}
use Rattle.cc_bulk.proofs.Appended.{pages_appended}
use Rattle.cc_bulk.proofs.CopiedBytes.{copies_go_on}
use Rattle.cc_bulk.proofs.FilledBytes.{fills_go_on}
use Rattle.cc_mem.proofs.Loads.{loads_done}
use Rattle.cc_bulk.proofs.Reached.{reaches_tested}
use Rattle.cc_mem.proofs.Sizes.{sizes_told}
use Rattle.cc_mem.proofs.StoreLaw.{stores_do}
use Rattle.cc_bulk.proofs.Told.{grows_told}
use Rattle.cc_simulate.proofs.SimulateMemory.{MemoryWorks}

pub memory_works : MemoryWorks
memory_works = record {
  loads = loads_by_done;
  stores = stores_by_done;
  sizes = sizes_told;
  grows = grows_told;
  appends = pages_appended;
  reaches = reaches_tested;
  fills = fills_go_on (stores_do addresses_found);
  copies = copies_go_on (loads_done addresses_found) (stores_do addresses_found);
}
