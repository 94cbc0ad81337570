use Rattle.std.proofs.Common.{length}
use Rattle.mc_nbt.proofs.lookup.+select.Given as goal

abbrev pub decreases-select : goal.decreases-select
decreases-select l = length l.path.now
