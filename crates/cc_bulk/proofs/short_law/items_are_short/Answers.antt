use Rattle.cc_bulk.proofs.ShortGrowing.{copy_byte_short, fill_byte_short, grow_short, grower_short, reach_short}
use Rattle.cc_bulk.proofs.short_law.items_are_short.Goals as goal

pub returns-clause-grows : goal.returns-clause-grows
returns-clause-grows c = grow_short

pub returns-clause-grower : goal.returns-clause-grower
returns-clause-grower c = grower_short

pub returns-clause-reaches : goal.returns-clause-reaches
returns-clause-reaches c = reach_short

pub returns-clause-fills : goal.returns-clause-fills
returns-clause-fills c = fill_byte_short

pub returns-clause-copies : goal.returns-clause-copies
returns-clause-copies c = copy_byte_short
