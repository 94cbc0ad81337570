use Rattle.std.proofs.Common.{◌≡◌, reverse, length}
use Rattle.wm_valid.specs.steps.Checking.{take_all}
use Rattle.wm_valid.specs.steps.Found.{shape}
use Rattle.wm_valid.proofs.operands.Operands.take_all.Given as goal

abbrev pub invariant-loop-left : goal.invariant-loop-left
invariant-loop-left l = take_all (reverse l.left) (shape l.self) ≡ take_all (reverse l.types) (shape l.initial.self)

abbrev pub decreases-loop-left : goal.decreases-loop-left
decreases-loop-left l = length l.left
