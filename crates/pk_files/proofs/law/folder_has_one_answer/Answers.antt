use Rattle.pk_files.proofs.HeldLemmas.{holds_one, not_refused, one_refusal}
use Rattle.pk_files.proofs.law.folder_has_one_answer.Goals as goal

pub returns-clause-pack : goal.returns-clause-pack
returns-clause-pack c = holds_one

pub returns-clause-held : goal.returns-clause-held
returns-clause-held c = not_refused

pub returns-clause-fault : goal.returns-clause-fault
returns-clause-fault c = one_refusal
