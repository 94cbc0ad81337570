use Rattle.std.proofs.Common.{◌∙◌, sym}
use Rattle.app_words.proofs.WordsLemmas.{job_named, no_job_named}
use Rattle.app_words.proofs.command_line.words.Goals as goal

pub returns-in-Some : goal.returns-in-Some
returns-in-Some c = job_named c.args.words.now c.in-Some.job (sym c.in_ok-job.ensures ∙ c.in-Some.is)

pub returns-in-None : goal.returns-in-None
returns-in-None c = no_job_named c.args.words.now (sym c.in_ok-job.ensures ∙ c.in-None.is)
