use Rattle.cc_line.proofs.ItemLemmas.{items_do}
use Rattle.cc_line.proofs.law.lines_do_what_items_do.Goals as goal

pub returns : goal.returns
returns c = items_do
