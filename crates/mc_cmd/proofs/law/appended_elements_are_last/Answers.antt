use Rattle.mc_cmd.proofs.StorageLemmas.{value_last, copy_last, value_keeps, copy_keeps}
use Rattle.mc_cmd.proofs.law.appended_elements_are_last.Goals as goal

pub returns-clause-value : goal.returns-clause-value
returns-clause-value c = value_last

pub returns-clause-copy : goal.returns-clause-copy
returns-clause-copy c = copy_last

pub returns-clause-kept : goal.returns-clause-kept
returns-clause-kept c = value_keeps

pub returns-clause-kept_by_copy : goal.returns-clause-kept_by_copy
returns-clause-kept_by_copy c = copy_keeps
