use Rattle.cc_tails.proofs.Laws.{tails_light}
use Rattle.cc_tails.proofs.law.run_on_items_stay_light.Goals as goal

pub returns : goal.returns
returns c = tails_light
