-- The laws of tables.
use Rattle.cc_table.specs.Law.{LooksAreLines, NumbersAreFound, TargetsAreFound, TargetsAreLines}
use Rattle.cc_table.proofs.Fitting.{looks_are_lines, targets_are_lines}
use Rattle.cc_table.proofs.Found.{numbers_are_found}
use Rattle.cc_table.proofs.Targets.{targets_are_found}

pub numbers_found : NumbersAreFound
numbers_found = numbers_are_found

pub targets_found : TargetsAreFound
targets_found = targets_are_found

pub looks_lines : LooksAreLines
looks_lines = looks_are_lines

pub targets_lines : TargetsAreLines
targets_lines = targets_are_lines
