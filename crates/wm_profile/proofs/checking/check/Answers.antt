use Rattle.wm_profile.proofs.Deciding.{decided}
use Rattle.wm_profile.proofs.checking.check.Goals as goal

pub returns-clause-ok : goal.returns-clause-ok
returns-clause-ok c = decided c.args.m.now c.first_cause.result c.first_cause.ensures
