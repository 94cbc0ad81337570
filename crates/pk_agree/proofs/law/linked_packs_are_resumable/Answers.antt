use Rattle.pk_agree.proofs.Pieces.{pieces_are_right}
use Rattle.pk_agree.proofs.Resuming.{linked_resumable}
use Rattle.pk_agree.proofs.law.linked_packs_are_resumable.Goals as goal

pub returns : goal.returns
returns c = linked_resumable pieces_are_right
