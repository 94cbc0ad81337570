use Rattle.pk_agree.proofs.OneJob.{only_one}
use Rattle.pk_agree.proofs.law.only_one_job_stands.Goals as goal

pub returns : goal.returns
returns c = only_one
