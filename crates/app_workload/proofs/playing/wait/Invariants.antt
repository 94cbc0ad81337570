use Rattle.mc_tick.specs.StateView.{IsTold, state_of}
use Rattle.app_workload.proofs.PlayingLemmas.{Waits}
use Rattle.app_workload.proofs.playing.wait.Given as goal

abbrev pub invariant-loop-left : goal.invariant-loop-left
invariant-loop-left l = record {
  told : IsTold l.state;
  on : Waits (state_of l.fn.first) (state_of l.state) l.fn.most l.left;
}

abbrev pub decreases-loop-left : goal.decreases-loop-left
decreases-loop-left l = l.left
