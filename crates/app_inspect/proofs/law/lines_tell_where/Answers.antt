use Rattle.app_inspect.proofs.WhereLemmas.{lines_tell_where}
use Rattle.app_inspect.proofs.law.lines_tell_where.Goals as goal

pub returns : goal.returns
returns c = lines_tell_where
