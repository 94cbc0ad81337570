use Rattle.pk_files.proofs.LinesLemmas.{lines_from}
use Rattle.pk_files.proofs.get.add.Goals as goal

pub add-requires-clause-lines : goal.add-requires-clause-lines
add-requires-clause-lines c = lines_from 1 c.args.lines c.requires.lines
