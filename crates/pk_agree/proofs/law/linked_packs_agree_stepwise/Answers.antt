use Rattle.pk_agree.proofs.Agreeing.{linked_agree_stepwise}
use Rattle.pk_agree.proofs.Pieces.{pieces_are_right}
use Rattle.pk_agree.proofs.law.linked_packs_agree_stepwise.Goals as goal

pub returns : goal.returns
returns c = linked_agree_stepwise pieces_are_right
