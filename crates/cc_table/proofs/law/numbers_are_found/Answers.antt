use Rattle.cc_table.proofs.Laws.{numbers_found}
use Rattle.cc_table.proofs.law.numbers_are_found.Goals as goal

pub returns : goal.returns
returns c = numbers_found
