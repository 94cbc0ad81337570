use Rattle.std.proofs.Common.{refl, ◌++◌}
use Rattle.cc_text.proofs.NamedLemmas.{all_within, within_behind, within_front}
use Rattle.cc_bits.specs.Helpers as words
use Rattle.cc_bits64.specs.Helpers.{beginning, helpers}
use Rattle.cc_bits64.proofs.HelperLemmas.{helpers_own, operation_named}
use Rattle.cc_bits64.proofs.helper_law.helpers_are_named.Goals as goal

pub returns-clause-items : goal.returns-clause-items
returns-clause-items c op a =
    operation_named (words.helpers ++ helpers) (within_front words.helpers helpers)
    (within_behind words.beginning beginning words.helpers helpers helpers refl refl refl (all_within helpers)) op a

pub returns-clause-own : goal.returns-clause-own
returns-clause-own c = helpers_own
