use Rattle.pk_files.proofs.PutLemmas.{four}
use Rattle.pk_files.proofs.put.json_files.Goals as goal

pub returns-clause-files : goal.returns-clause-files
returns-clause-files c = four _ _ _ _ _ _ _ _ c.in_ok-load.ensures.file c.in_ok-tick.ensures.file c.in_ok-exports.ensures.file c.in_ok-meta.ensures
