use Rattle.cc_line.proofs.OnPlacesLemmas.{two_fit, one_fits, two_most, one_most}
use Rattle.cc_line.proofs.law.cores_fit_on_places.Goals as goal

pub returns-clause-two : goal.returns-clause-two
returns-clause-two c = two_fit

pub returns-clause-one : goal.returns-clause-one
returns-clause-one c = one_fits

pub returns-clause-most_of_two : goal.returns-clause-most_of_two
returns-clause-most_of_two c = two_most

pub returns-clause-most_of_one : goal.returns-clause-most_of_one
returns-clause-most_of_one c = one_most
