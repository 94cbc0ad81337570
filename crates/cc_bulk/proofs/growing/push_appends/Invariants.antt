use Rattle.std.proofs.Common.{◌≡◌, ◌++◌}
use Rattle.cc_line.specs.View.{steps_view}
use Rattle.cc_bulk.specs.Grow.{append_steps}
use Rattle.cc_bulk.proofs.growing.push_appends.Given as goal

abbrev pub invariant-loop-pages : goal.invariant-loop-pages
invariant-loop-pages l = steps_view l.steps.items ≡ steps_view l.fn.steps.items ++ append_steps 1 l.pages
