use Rattle.cc_bits.proofs.Short.{operation_short}
use Rattle.cc_bits.proofs.law.items_are_short.Goals as goal

pub returns : goal.returns
returns c = operation_short
