use Rattle.mc_together.proofs.ShareLemmas.{share_budget, shares_sum}
use Rattle.mc_together.proofs.law.shares_sum_to_the_budget.Goals as goal

pub returns-clause-sum : goal.returns-clause-sum
returns-clause-sum c = shares_sum

pub returns-clause-share : goal.returns-clause-share
returns-clause-share c = share_budget
