use Rattle.pk_files.proofs.ExampleLemmas.{worked}
use Rattle.pk_files.proofs.law.worked_pack_is_held.Goals as goal

pub returns : goal.returns
returns c = worked
