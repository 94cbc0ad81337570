use Rattle.cc_table.proofs.Short.{find_short, look_short, target_short}
use Rattle.cc_table.proofs.law.items_are_short.Goals as goal

pub returns-clause-looks : goal.returns-clause-looks
returns-clause-looks c = look_short

pub returns-clause-finds : goal.returns-clause-finds
returns-clause-finds c = find_short

pub returns-clause-targets : goal.returns-clause-targets
returns-clause-targets c = target_short
