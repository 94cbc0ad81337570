use Rattle.app_linked.proofs.TellLemmas.{lines_tell}
use Rattle.app_linked.proofs.law.lines_tell_linked_modules.Goals as goal

pub returns : goal.returns
returns c = lines_tell
