use Rattle.wm_flat.proofs.Outcomes.{one_outcome, end_is, trap_is}
use Rattle.wm_flat.proofs.law.outcome_is_one.Goals as goal

pub returns : goal.returns
returns c = record { one = one_outcome; end = end_is; trap = trap_is }
