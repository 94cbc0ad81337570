use Rattle.cc_line.proofs.RenameLemmas.{core_makes, core_makes_one}
use Rattle.cc_line.proofs.law.cores_run_on_any_spots.Goals as goal

pub returns-clause-two : goal.returns-clause-two
returns-clause-two c = core_makes

pub returns-clause-one : goal.returns-clause-one
returns-clause-one c = core_makes_one
