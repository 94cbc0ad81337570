use Rattle.std.proofs.Common.{length}
use Rattle.mc_nbt.proofs.edit.descent.+append_at.Given as goal

abbrev pub decreases-append_at : goal.decreases-append_at
decreases-append_at l = length l.rest.now
