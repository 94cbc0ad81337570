use Rattle.mc_nbt.proofs.BelowLaws.{put_back_apart, put_back_depth, put_back_selected, put_back_there}
use Rattle.mc_nbt.proofs.law.what_is_put_back_stands_there.Goals as goal

pub returns-clause-there : goal.returns-clause-there
returns-clause-there c = put_back_there

pub returns-clause-selected : goal.returns-clause-selected
returns-clause-selected c = put_back_selected

pub returns-clause-others : goal.returns-clause-others
returns-clause-others c = put_back_apart

pub returns-clause-deep : goal.returns-clause-deep
returns-clause-deep c = put_back_depth
