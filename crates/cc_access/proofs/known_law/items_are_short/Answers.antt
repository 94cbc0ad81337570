use Rattle.cc_access.proofs.Short.{loads_short, stores_short}
use Rattle.cc_access.proofs.known_law.items_are_short.Goals as goal

pub returns-clause-loads : goal.returns-clause-loads
returns-clause-loads c = loads_short

pub returns-clause-stores : goal.returns-clause-stores
returns-clause-stores c = stores_short
