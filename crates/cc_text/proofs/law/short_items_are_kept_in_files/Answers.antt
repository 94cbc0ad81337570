use Rattle.cc_text.proofs.ShortItems.{items_file_short, items_helped}
use Rattle.cc_text.proofs.law.short_items_are_kept_in_files.Goals as goal

pub returns-clause-lines : goal.returns-clause-lines
returns-clause-lines c = items_file_short

pub returns-clause-helpers : goal.returns-clause-helpers
returns-clause-helpers c = items_helped
