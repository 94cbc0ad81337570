use Rattle.mc_nbt.proofs.ShapeLaws.{append_is_tree, remove_is_tree, set_is_tree}
use Rattle.mc_nbt.proofs.law.changes_leave_trees.Goals as goal

pub returns-clause-set : goal.returns-clause-set
returns-clause-set c = set_is_tree

pub returns-clause-append : goal.returns-clause-append
returns-clause-append c = append_is_tree

pub returns-clause-remove : goal.returns-clause-remove
returns-clause-remove c = remove_is_tree
