use Rattle.wm_view.proofs.Views.{views_agree}
use Rattle.wm_view.proofs.law.views_agree.Goals as goal

pub returns : goal.returns
returns c = record { agree = views_agree }
