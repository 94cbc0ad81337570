use Rattle.cc_mem.proofs.Lines.{loads_are_lines, sizes_are_lines, stores_are_lines}
use Rattle.cc_mem.proofs.law.accesses_are_lines.Goals as goal

pub returns : goal.returns
returns c = record { loads = loads_are_lines; stores = stores_are_lines; sizes = sizes_are_lines }
