use Rattle.pk_files.proofs.StopLemmas.{stopped}
use Rattle.pk_files.proofs.law.stopped_folder_holds_no_pack.Goals as goal

pub returns : goal.returns
returns c folder dir w after path bare = stopped folder dir w bare after path
