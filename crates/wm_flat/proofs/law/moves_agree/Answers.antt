use Rattle.wm_flat.proofs.Agree.{agree, no_move}
use Rattle.wm_flat.proofs.law.moves_agree.Goals as goal

pub returns : goal.returns
returns c = record { steps = agree; stuck = no_move }
