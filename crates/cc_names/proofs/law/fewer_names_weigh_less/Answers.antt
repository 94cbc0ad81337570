use Rattle.cc_names.proofs.Changes.{exits_same, helpers_same, weighs_no_more}
use Rattle.cc_names.proofs.law.fewer_names_weigh_less.Goals as goal

pub returns-clause-most : goal.returns-clause-most
returns-clause-most c = weighs_no_more

pub returns-clause-exits : goal.returns-clause-exits
returns-clause-exits c = exits_same

pub returns-clause-helpers : goal.returns-clause-helpers
returns-clause-helpers c = helpers_same
