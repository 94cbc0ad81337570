use Rattle.app_linked.proofs.JobLemmas.{jobs_linked}
use Rattle.app_linked.proofs.law.joined_jobs_are_linked.Goals as goal

pub returns : goal.returns
returns c = jobs_linked
