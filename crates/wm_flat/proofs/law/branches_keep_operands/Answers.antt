use Rattle.wm_flat.proofs.Operands.{jump_operands}
use Rattle.wm_flat.proofs.law.branches_keep_operands.Goals as goal

pub returns : goal.returns
returns c = jump_operands
