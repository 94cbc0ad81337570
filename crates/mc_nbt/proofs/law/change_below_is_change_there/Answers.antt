use Rattle.mc_nbt.proofs.BelowLaws.{append_below, remove_below, set_below}
use Rattle.mc_nbt.proofs.law.change_below_is_change_there.Goals as goal

pub returns-clause-set : goal.returns-clause-set
returns-clause-set c = set_below

pub returns-clause-append : goal.returns-clause-append
returns-clause-append c = append_below

pub returns-clause-remove : goal.returns-clause-remove
returns-clause-remove c = remove_below
