use Rattle.std.proofs.Common.{[]}
use Rattle.cc_text.proofs.NamedItems.{named_steps}
use Rattle.cc_text.proofs.NamedLemmas.{all_within}
use Rattle.cc_mem.specs.Helpers.{helpers}
use Rattle.cc_bulk.specs.Fill.{reach_steps}
use Rattle.cc_bulk.specs.Grow.{grow_steps, grower_steps}
use Rattle.cc_bulk.proofs.HelperLemmas.{copy_named, fill_named}
use Rattle.cc_bulk.proofs.helper_law.helpers_are_named.Goals as goal

pub returns-clause-fills : goal.returns-clause-fills
returns-clause-fills c sure p q r = fill_named helpers (all_within helpers) sure p q r

pub returns-clause-copies : goal.returns-clause-copies
returns-clause-copies c sure p q r = copy_named helpers (all_within helpers) sure p q r

pub returns-clause-reaches : goal.returns-clause-reaches
returns-clause-reaches c a n = named_steps [] (reach_steps a n)

pub returns-clause-grows : goal.returns-clause-grows
returns-clause-grows c most r = named_steps [] (grow_steps most r)

pub returns-clause-grower : goal.returns-clause-grower
returns-clause-grower c = named_steps [] grower_steps
