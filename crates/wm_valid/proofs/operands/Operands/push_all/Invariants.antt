use Rattle.std.proofs.Common.{◌≡◌, take, reverse}
use Rattle.wm_valid.specs.steps.Checking.{push_all}
use Rattle.wm_valid.specs.steps.Found.{shape}
use Rattle.wm_valid.proofs.operands.Operands.push_all.Given as goal

abbrev pub invariant-loop-ty : goal.invariant-loop-ty
invariant-loop-ty l = shape l.self ≡ push_all (reverse (take l.ty-index l.types)) (shape l.initial.self)
