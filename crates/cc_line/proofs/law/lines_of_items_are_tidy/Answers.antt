use Rattle.cc_line.proofs.ItemLemmas.{items_tidy, items_helpers_tidy}
use Rattle.cc_line.proofs.law.lines_of_items_are_tidy.Goals as goal

pub returns-clause-lines : goal.returns-clause-lines
returns-clause-lines c = items_tidy

pub returns-clause-helpers : goal.returns-clause-helpers
returns-clause-helpers c = items_helpers_tidy
