use Rattle.cc_bulk.proofs.FillLines.{reaches_lines, fills_lines, copies_lines}
use Rattle.cc_bulk.proofs.fill_law.fills_are_lines.Goals as goal

pub returns-clause-reaches : goal.returns-clause-reaches
returns-clause-reaches c = reaches_lines

pub returns-clause-fills : goal.returns-clause-fills
returns-clause-fills c = fills_lines

pub returns-clause-copies : goal.returns-clause-copies
returns-clause-copies c = copies_lines
