use Rattle.cc_text.proofs.NamedLemmas.{all_within}
use Rattle.cc_mem.specs.Helpers.{helpers}
use Rattle.cc_mem.proofs.HelperLemmas.{helpers_own, load_named, store_named}
use Rattle.cc_mem.proofs.helper_law.helpers_are_named.Goals as goal

pub returns-clause-loads : goal.returns-clause-loads
returns-clause-loads c sure op a offset r = load_named helpers (all_within helpers) sure op a offset r

pub returns-clause-stores : goal.returns-clause-stores
returns-clause-stores c sure op a offset v = store_named helpers (all_within helpers) sure op a offset v

pub returns-clause-own : goal.returns-clause-own
returns-clause-own c = helpers_own
