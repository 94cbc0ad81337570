use Rattle.std.proofs.Common.{rules}
use Rattle.io_dev.proofs.mem_files.MemFilesFiles.names.Goals as goal

pub returns-clause-listed : goal.returns-clause-listed
returns-clause-listed c =
    (rw c.in_ok-texts_of.ensures.names c.in_ok-names.ensures, c.in_ok-texts_of.ensures.rising, search rules)
