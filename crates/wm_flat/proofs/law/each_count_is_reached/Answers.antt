use Rattle.wm_flat.proofs.EachCount.{stage}
use Rattle.wm_flat.proofs.law.each_count_is_reached.Goals as goal

pub returns : goal.returns
returns c = stage
