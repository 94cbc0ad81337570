use Rattle.cc_text.proofs.NamedLemmas.{all_within}
use Rattle.cc_table.specs.Helpers.{call_helpers, look_helpers}
use Rattle.cc_table.proofs.HelperLemmas.{find_named, helpers_own, look_named, target_named, types_own}
use Rattle.cc_table.proofs.helper_law.helpers_are_named.Goals as goal

pub returns-clause-finds : goal.returns-clause-finds
returns-clause-finds c zs = find_named look_helpers (all_within look_helpers) zs

pub returns-clause-looks : goal.returns-clause-looks
returns-clause-looks c zs z = look_named look_helpers (all_within look_helpers) zs z

pub returns-clause-targets : goal.returns-clause-targets
returns-clause-targets c m few n i h = target_named m few (call_helpers m) (all_within (call_helpers m)) n i h

pub returns-clause-own : goal.returns-clause-own
returns-clause-own c = helpers_own

pub returns-clause-types_own : goal.returns-clause-types_own
returns-clause-types_own c m = types_own m
