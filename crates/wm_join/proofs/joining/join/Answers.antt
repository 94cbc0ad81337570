use Rattle.wm_match.specs.Cause.{program}
use Rattle.wm_join.proofs.OutcomeLaws.{calls_follow, outcomes_agree}
use Rattle.wm_join.proofs.RunLaws.{runs_alike}
use Rattle.wm_join.proofs.ValidLaws.{valid_begins}
use Rattle.wm_join.proofs.joining.join.Goals as goal

pub returns-clause-runs : goal.returns-clause-runs
returns-clause-runs c = runs_alike (program c.args.libs.now c.args.main.now c.args.bindings.now)

pub returns-clause-outcomes : goal.returns-clause-outcomes
returns-clause-outcomes c = outcomes_agree (program c.args.libs.now c.args.main.now c.args.bindings.now)

pub returns-clause-follow : goal.returns-clause-follow
returns-clause-follow c = calls_follow (program c.args.libs.now c.args.main.now c.args.bindings.now)

pub returns-clause-begins : goal.returns-clause-begins
returns-clause-begins c = valid_begins (program c.args.libs.now c.args.main.now c.args.bindings.now)
