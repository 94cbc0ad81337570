use Rattle.std.proofs.Common.{[]}
use Rattle.wm_place.proofs.WalkLemmas.{run_behind}
use Rattle.wm_place.proofs.law.kinds_lead_on.Goals as goal

pub returns : goal.returns
returns c = λ S lvs before i is. run_behind before i S []
