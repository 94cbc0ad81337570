use Rattle.cc_bits64.proofs.FitLemmas.{all_most}
use Rattle.cc_bits64.proofs.law.operations_are_light.Goals as goal

pub returns : goal.returns
returns c = all_most
