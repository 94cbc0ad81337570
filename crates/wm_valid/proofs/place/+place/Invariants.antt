use Rattle.std.proofs.Common.{◌+◌, ◌*◌, length}
use Rattle.wm_valid.proofs.place.+place.Given as goal

abbrev pub decreases-find_operands : goal.decreases-find_operands
decreases-find_operands l = 2 * length l.place.now

abbrev pub decreases-go_on : goal.decreases-go_on
decreases-go_on l = 2 * length l.path.now + 1
