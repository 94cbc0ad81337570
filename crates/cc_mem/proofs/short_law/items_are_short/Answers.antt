use Rattle.cc_mem.proofs.ShortAccesses.{load_short, size_short, store_short}
use Rattle.cc_mem.proofs.short_law.items_are_short.Goals as goal

pub returns-clause-loads : goal.returns-clause-loads
returns-clause-loads c = load_short

pub returns-clause-stores : goal.returns-clause-stores
returns-clause-stores c = store_short

pub returns-clause-sizes : goal.returns-clause-sizes
returns-clause-sizes c = size_short
