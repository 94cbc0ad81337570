use Rattle.app_linked.proofs.OneLemmas.{only_one}
use Rattle.app_linked.proofs.law.only_one_linked_job_stands.Goals as goal

pub returns : goal.returns
returns c = only_one
