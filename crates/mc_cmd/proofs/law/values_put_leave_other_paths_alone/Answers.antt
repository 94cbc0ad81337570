use Rattle.mc_cmd.proofs.StorageLemmas.{put_apart}
use Rattle.mc_cmd.proofs.law.values_put_leave_other_paths_alone.Goals as goal

pub returns : goal.returns
returns c = put_apart
