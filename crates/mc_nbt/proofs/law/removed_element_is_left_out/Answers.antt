use Rattle.mc_nbt.proofs.RemoveLaws.{element_removed, last_removed, place_before_removed, place_behind_removed}
use Rattle.mc_nbt.proofs.law.removed_element_is_left_out.Goals as goal

pub returns-clause-list : goal.returns-clause-list
returns-clause-list c = element_removed

pub returns-clause-last : goal.returns-clause-last
returns-clause-last c = last_removed

pub returns-clause-before : goal.returns-clause-before
returns-clause-before c = place_before_removed

pub returns-clause-behind : goal.returns-clause-behind
returns-clause-behind c = place_behind_removed
