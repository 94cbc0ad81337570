use Rattle.pk_sight.proofs.ShownLemmas.{told_none, told_some}
use Rattle.mc_inspect.proofs.frames.frame_under.Goals as goal

pub returns-in_default : goal.returns-in_default
returns-in_default c = told_none _ _ _ c.in_default.is c.in_ok-frame.ensures

pub returns : goal.returns
returns c = record { below = c.in-Some.frame; is_held = told_some _ _ _ _ c.in-Some.is c.in_ok-frame.ensures; shown = c.in_ok-whole.ensures }
