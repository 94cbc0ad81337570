use Rattle.wm_profile.proofs.Finding.{found_here, found_later, in_expressions}
use Rattle.wm_profile.proofs.expression.first_labels_above.Goals as goal

pub returns-in-Some : goal.returns-in-Some
returns-in-Some g c = found_here (in_expressions g.T.Expression.expression) c.args.items.now c.loop-item.item-index c.item-item.result c.in-Some.labels c.loop-item-test.true c.loop-item.invariant (rw (← c.item-item.is, ← c.instructions.ensures) c.in-Some.ensures)

pub loop-item-preserved : goal.loop-item-preserved
loop-item-preserved g c = found_later (in_expressions g.T.Expression.expression) c.args.items.now c.loop-item.item-index c.item-item.result c.loop-item-test.true c.loop-item.invariant (rw (← c.item-item.is, ← c.instructions.ensures) c.in_default.ensures)
