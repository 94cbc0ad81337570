use Rattle.wm_flat.proofs.Outcomes.{first_is, call_is}
use Rattle.wm_flat.proofs.law.beginnings_agree.Goals as goal

pub returns : goal.returns
returns c = record { program = first_is; call = call_is }
