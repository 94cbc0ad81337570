use Rattle.mc_inspect.proofs.OneView.{views_are_one}
use Rattle.mc_inspect.proofs.law.views_are_one.Goals as goal

pub returns : goal.returns
returns c = views_are_one
