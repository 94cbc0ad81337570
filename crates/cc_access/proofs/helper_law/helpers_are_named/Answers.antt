use Rattle.cc_text.proofs.NamedLemmas.{all_within}
use Rattle.cc_mem.specs.Helpers.{helpers}
use Rattle.cc_access.proofs.HelperLemmas.{loads_named, stores_named}
use Rattle.cc_access.proofs.helper_law.helpers_are_named.Goals as goal

pub returns-clause-loads : goal.returns-clause-loads
returns-clause-loads c least known sure op a offset = loads_named helpers (all_within helpers) least known sure op a offset

pub returns-clause-stores : goal.returns-clause-stores
returns-clause-stores c least known sure op a offset = stores_named helpers (all_within helpers) least known sure op a offset
