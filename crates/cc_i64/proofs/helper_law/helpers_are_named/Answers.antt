use Rattle.std.proofs.Common.{[]}
use Rattle.cc_i64.proofs.HelperLemmas.{operation_named}
use Rattle.cc_i64.proofs.helper_law.helpers_are_named.Goals as goal

pub returns : goal.returns
returns c op a = operation_named [] op a
