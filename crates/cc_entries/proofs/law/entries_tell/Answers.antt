use Rattle.cc_entries.proofs.Telling.{entries_tell, names_tell}
use Rattle.cc_entries.proofs.law.entries_tell.Goals as goal

pub returns : goal.returns
returns c = record { names = names_tell; entries = entries_tell }
