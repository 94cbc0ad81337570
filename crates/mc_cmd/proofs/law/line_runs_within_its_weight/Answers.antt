use Rattle.mc_cmd.proofs.ChainLemmas.{line_runs, line_cut, line_passed}
use Rattle.mc_cmd.proofs.law.line_runs_within_its_weight.Goals as goal

pub returns-clause-runs : goal.returns-clause-runs
returns-clause-runs c = line_runs

pub returns-clause-cut : goal.returns-clause-cut
returns-clause-cut c = line_cut

pub returns-clause-nothing : goal.returns-clause-nothing
returns-clause-nothing c = line_passed
