use Rattle.cc_line.proofs.ItemLemmas.{items_within}
use Rattle.cc_line.proofs.law.items_weigh_at_most.Goals as goal

pub returns : goal.returns
returns c = items_within
