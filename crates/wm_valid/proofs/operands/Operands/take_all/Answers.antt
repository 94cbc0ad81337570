use Rattle.std.proofs.Common.{◌≡◌, [], reverse, ap, sym, ◌∙◌, arith}
use Rattle.std.proofs.lemmas.Grind.{common_steps}
use Rattle.wm_valid.specs.steps.Found.{shape}
use Rattle.wm_valid.proofs.OperandLaws.{takes_from_any}
use Rattle.wm_valid.proofs.operands.Operands.take_all.Goals as goal

pub returns-then-is_empty : goal.returns-then-is_empty
returns-then-is_empty c =
    let none : c.loop-left.self.known.items ≡ [] = grind (arith, common_steps) in
    sym c.loop-left.invariant ∙ takes_from_any (reverse c.loop-left.left.now) (shape c.loop-left.self) (ap reverse none) c.if-self.true
