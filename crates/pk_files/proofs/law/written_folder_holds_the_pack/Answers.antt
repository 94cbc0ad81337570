use Rattle.pk_files.proofs.HoldsLemmas.{written_holds}
use Rattle.pk_files.proofs.law.written_folder_holds_the_pack.Goals as goal

pub returns : goal.returns
returns c = written_holds
