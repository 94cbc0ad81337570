use Rattle.cc_names.proofs.Runs.{runs_alike}
use Rattle.cc_names.proofs.law.fewer_names_change_nothing_seen.Goals as goal

pub returns : goal.returns
returns c = runs_alike
