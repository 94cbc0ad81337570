use Rattle.cc_bulk.proofs.GrowLines.{grows_lines, grower_lines}
use Rattle.cc_bulk.proofs.grow_law.grows_are_lines.Goals as goal

pub returns-clause-steps : goal.returns-clause-steps
returns-clause-steps c = grows_lines

pub returns-clause-grower : goal.returns-clause-grower
returns-clause-grower c = grower_lines
