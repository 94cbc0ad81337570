use Rattle.cc_sched.proofs.ChargeLemmas.{charge_fits, charge_helpers, charge_most, exits_few}
use Rattle.cc_sched.proofs.law.charges_change_little.Goals as goal

pub returns-clause-most : goal.returns-clause-most
returns-clause-most c = charge_most

pub returns-clause-few : goal.returns-clause-few
returns-clause-few c = exits_few

pub returns-clause-fits : goal.returns-clause-fits
returns-clause-fits c = charge_fits

pub returns-clause-helpers : goal.returns-clause-helpers
returns-clause-helpers c = charge_helpers
