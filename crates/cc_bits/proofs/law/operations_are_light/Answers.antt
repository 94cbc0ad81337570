use Rattle.cc_bits.proofs.OperationLemmas.{all_most, all_light}
use Rattle.cc_bits.proofs.law.operations_are_light.Goals as goal

pub returns-clause-most : goal.returns-clause-most
returns-clause-most c = all_most

pub returns-clause-light : goal.returns-clause-light
returns-clause-light c = all_light
