use Rattle.mc_cmd.proofs.StorageLemmas.{changed_elsewhere, changed_objectives, changed_scores, changed_rule}
use Rattle.mc_cmd.proofs.law.storages_are_apart.Goals as goal

pub returns-clause-storages : goal.returns-clause-storages
returns-clause-storages c = changed_elsewhere

pub returns-clause-objectives : goal.returns-clause-objectives
returns-clause-objectives c = changed_objectives

pub returns-clause-scores : goal.returns-clause-scores
returns-clause-scores c = changed_scores

pub returns-clause-rule : goal.returns-clause-rule
returns-clause-rule c = changed_rule
