use Rattle.cc_line.proofs.OnPlacesLemmas.{two_give, one_gives}
use Rattle.cc_line.proofs.law.cores_run_on_any_places.Goals as goal

pub returns-clause-two : goal.returns-clause-two
returns-clause-two c = two_give

pub returns-clause-one : goal.returns-clause-one
returns-clause-one c = one_gives
