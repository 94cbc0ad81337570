use Rattle.cc_div64.proofs.Short.{begin_short, end_short, turns_short}
use Rattle.cc_div64.proofs.law.items_are_short.Goals as goal

pub returns-clause-begin : goal.returns-clause-begin
returns-clause-begin c = begin_short

pub returns-clause-turns : goal.returns-clause-turns
returns-clause-turns c = turns_short

pub returns-clause-ends : goal.returns-clause-ends
returns-clause-ends c = end_short
