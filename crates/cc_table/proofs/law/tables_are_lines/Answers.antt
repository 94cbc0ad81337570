use Rattle.cc_table.proofs.Laws.{looks_lines, targets_lines}
use Rattle.cc_table.proofs.law.tables_are_lines.Goals as goal

pub returns-clause-looks : goal.returns-clause-looks
returns-clause-looks c = looks_lines

pub returns-clause-targets : goal.returns-clause-targets
returns-clause-targets c = targets_lines
