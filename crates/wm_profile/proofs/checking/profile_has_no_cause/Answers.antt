use Rattle.wm_profile.proofs.Deciding.{in_profile, no_fault}
use Rattle.wm_profile.proofs.checking.profile_has_no_cause.Goals as goal

pub returns : goal.returns
returns c m = (no_fault m, in_profile m)
