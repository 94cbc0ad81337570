use Rattle.pk_files.proofs.JsonLemmas.{index_says}
use Rattle.pk_files.proofs.law.index_says_itself.Goals as goal

pub returns : goal.returns
returns c = index_says
