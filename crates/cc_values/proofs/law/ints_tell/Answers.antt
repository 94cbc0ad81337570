use Rattle.cc_values.proofs.Values.{locals_told, stack_told, parts_told, stack_turned, handed_told}
use Rattle.cc_values.proofs.law.ints_tell.Goals as goal

pub returns : goal.returns
returns c = record {
  locals = locals_told;
  operands = stack_told;
  parts = parts_told;
  turned = stack_turned;
  handed = handed_told;
}
