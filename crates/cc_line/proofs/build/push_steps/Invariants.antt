use Rattle.std.proofs.Common.{◌≡◌, drop}
use Rattle.cc_line.specs.Item.{join, steps_items}
use Rattle.cc_line.specs.View.{items_view, steps_view}
use Rattle.cc_line.proofs.build.push_steps.Given as goal

abbrev pub invariant-loop-step : goal.invariant-loop-step
invariant-loop-step l = join (items_view l.items.items) (steps_items (steps_view (drop l.step-index l.steps))) ≡ join (items_view l.initial.items.items) (steps_items (steps_view l.steps))
