use Rattle.wm_vectors.proofs.VectorLaws.{vectors_short}
use Rattle.wm_vectors.proofs.law.vectors_are_short.Goals as goal

pub returns : goal.returns
returns c = vectors_short
