use Rattle.std.proofs.Common.{◌≡◌, map, drop}
use Rattle.wm_profile.specs.steps.Counted.{labels_beyond}
use Rattle.wm_profile.proofs.expression.first_labels_above.Given as goal

abbrev pub invariant-loop-item : goal.invariant-loop-item
invariant-loop-item g l = labels_beyond (map g.T.Expression.expression (drop l.item-index l.items)) ≡ labels_beyond (map g.T.Expression.expression l.items)
