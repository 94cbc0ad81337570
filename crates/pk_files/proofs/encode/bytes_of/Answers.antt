use Rattle.pk_files.proofs.JsonLemmas.{said_value}
use Rattle.pk_files.proofs.encode.bytes_of.Goals as goal

pub returns-clause-said : goal.returns-clause-said
returns-clause-said c = said_value c.in_ok-bytes.bytes.items _ c.in_ok-bytes.ensures.utf8 (c.in_ok-bytes.ensures.reads_back c.requires.shallow)
