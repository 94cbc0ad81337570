use Rattle.cc_text.proofs.NamedLemmas.{all_within}
use Rattle.cc_bits.specs.Helpers.{helpers}
use Rattle.cc_bits.proofs.HelperLemmas.{helpers_own, operation_named}
use Rattle.cc_bits.proofs.helper_law.helpers_are_named.Goals as goal

pub returns-clause-items : goal.returns-clause-items
returns-clause-items c op a b r = operation_named helpers (all_within helpers) op a b r

pub returns-clause-own : goal.returns-clause-own
returns-clause-own c = helpers_own
