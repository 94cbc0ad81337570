use Rattle.mc_cmd.proofs.StorageLemmas.{last_taken, places_before_last}
use Rattle.mc_cmd.proofs.law.removal_of_the_last_leaves_elements_before.Goals as goal

pub returns-clause-last : goal.returns-clause-last
returns-clause-last c = last_taken

pub returns-clause-before : goal.returns-clause-before
returns-clause-before c = places_before_last
