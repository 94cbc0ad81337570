use Rattle.mc_nbt.proofs.RemoveLaws.{append_keeps_place, appended_to_list, appended_to_nothing}
use Rattle.mc_nbt.proofs.law.append_leaves_elements_alone.Goals as goal

pub returns-clause-list : goal.returns-clause-list
returns-clause-list c = appended_to_list

pub returns-clause-nothing : goal.returns-clause-nothing
returns-clause-nothing c = appended_to_nothing

pub returns-clause-places : goal.returns-clause-places
returns-clause-places c = append_keeps_place
