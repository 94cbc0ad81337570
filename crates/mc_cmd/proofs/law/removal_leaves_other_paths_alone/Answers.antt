use Rattle.mc_cmd.proofs.StorageLemmas.{removed_outlives}
use Rattle.mc_cmd.proofs.law.removal_leaves_other_paths_alone.Goals as goal

pub returns : goal.returns
returns c = removed_outlives
