use Rattle.app_tell.proofs.TellLemmas.{lines_tell}
use Rattle.app_tell.proofs.law.lines_tell_the_reduction.Goals as goal

pub returns : goal.returns
returns c = lines_tell
