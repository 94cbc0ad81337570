use Rattle.cc_text.proofs.NamedLemmas.{all_within}
use Rattle.cc_div64.specs.Helpers.{helpers}
use Rattle.cc_div64.proofs.HelperLemmas.{begin_named, end_named, helpers_own, turns_named}
use Rattle.cc_div64.proofs.helper_law.helpers_are_named.Goals as goal

pub returns-clause-begin : goal.returns-clause-begin
returns-clause-begin c op a = begin_named helpers (all_within helpers) op a

pub returns-clause-turns : goal.returns-clause-turns
returns-clause-turns c = turns_named helpers (all_within helpers)

pub returns-clause-ends : goal.returns-clause-ends
returns-clause-ends c op a = end_named helpers (all_within helpers) op a

pub returns-clause-own : goal.returns-clause-own
returns-clause-own c = helpers_own
