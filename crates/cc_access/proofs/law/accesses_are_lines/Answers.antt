use Rattle.cc_access.proofs.Weights.{loads_are_lines, stores_are_lines}
use Rattle.cc_access.proofs.law.accesses_are_lines.Goals as goal

pub returns : goal.returns
returns c = record { loads = loads_are_lines; stores = stores_are_lines }
