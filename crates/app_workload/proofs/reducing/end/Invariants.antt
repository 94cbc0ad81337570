use Rattle.std.proofs.Common.{◌≡◌}
use Rattle.wm_reduce.specs.Shown.{shown}
use Rattle.app_workload.specs.steps.Reducing.{IsReducing, comes_to}
use Rattle.app_workload.proofs.reducing.end.Given as goal

abbrev pub invariant-loop-left : goal.invariant-loop-left
invariant-loop-left l = record {
  reducing : IsReducing (shown l.reduction);
  alike : comes_to (shown l.reduction) l.left ≡ comes_to (shown l.initial.reduction) l.initial.left;
}

abbrev pub decreases-loop-left : goal.decreases-loop-left
decreases-loop-left l = l.left
