use Rattle.cc_mem.proofs.Sizes.{sizes_told}
use Rattle.cc_mem.proofs.law.sizes_are_told.Goals as goal

pub returns : goal.returns
returns c = sizes_told
