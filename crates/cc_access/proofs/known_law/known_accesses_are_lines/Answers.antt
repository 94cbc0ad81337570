use Rattle.cc_access.proofs.KnownLines.{loads_by_lines, stores_by_lines}
use Rattle.cc_access.proofs.known_law.known_accesses_are_lines.Goals as goal

pub returns : goal.returns
returns c = record { loads = loads_by_lines; stores = stores_by_lines }
