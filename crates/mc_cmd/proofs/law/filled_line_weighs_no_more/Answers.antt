use Rattle.mc_cmd.proofs.WeightLemmas.{filled_weight}
use Rattle.mc_cmd.proofs.law.filled_line_weighs_no_more.Goals as goal

pub returns : goal.returns
returns c = filled_weight
